-- Fields 1 to 14 and the blanks of 15 and 16 are written first, and the checksum is over them.
use mathlib.Core.Path.{◌≡◌, refl}
use mathlib.Core.List.{List, [], ◌∷◌}
use native.Mathlib.Omega.{arith}
use lib.ListN.{length, replicate}
use Rattle.text.specs.Characters.{blank}
use Rattle.text.specs.Letters.{letters}
use Rattle.message.specs.Layout.{field}
use Rattle.message.specs.declared.Kind.TheVariants.{Esi}
use Rattle.reply.specs.Reply.{Said, said, joined}
use Rattle.build.specs.Messages.{esi_front, esi_built}
use Rattle.build.proofs.Written.{front_length, front_written, message_closed}
use borrow.Author.Rules.{rules}
use Rattle.build.proofs.esi_text.Goals as goal

pub returns : goal.returns
unfolding joined letters esi_built
returns c =
    let a = c.args in
    let bank : length a.h.bank ≡ 25 = search rules in
    let own : length a.h.own ≡ 25 = search rules in
    let software : length a.software ≡ 16 = search rules in
    let stamp : length a.stamp ≡ 15 = search rules in
    let rest : List Said = said (field 15) (replicate 16 blank) ∷ said (field 16) (replicate 16 blank) ∷ [] in
    message_closed a.h.working.key a.request (esi_front a.h a.software a.stamp) (replicate 161 0)
    (front_length Esi a.h a.software (letters "SMH") a.stamp blank software refl bank own stamp rest 32 refl) refl
    (front_written Esi a.h a.software (letters "SMH") a.stamp blank software refl bank own stamp rest 32 refl (replicate 161 0)
    (omega arith) c.put_opening.ensures c.put_middle.ensures c.write_bytes.ensures)
    c.put_closing.ensures
