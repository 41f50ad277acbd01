-- The method is the SUO's, whose known text has it too.
use mathlib.Core.Path.{◌≡◌, ap, ◌∙◌}
use lib.ListN.{length}
use Rattle.des.specs.Des.{enciphered}
use Rattle.digest.specs.Running.{alike, took_bytes, ended}
use Rattle.digest.specs.declared.Method.{Method}
use Rattle.message.specs.Fields.{method_of}
use Rattle.build.specs.Building.{record_added}
use Rattle.build.proofs.Known.{known_method}
use borrow.Author.Rules.{rules}
use Rattle.build.proofs.add_record.Goals as goal

pub returns : goal.returns
unfolding record_added
returns c =
    let b = c.args.b in
    let z : length b.suo ≡ 128 = search rules in
    let m = c.method-method.ensures ∙ ap method_of c.known_suo.ensures ∙ known_method b.suo z in
    let state = c.digest_with-state.ensures
    ∙ ap (λ (x : Method). (ended x (took_bytes (enciphered b.once) (alike b.state) c.args.characters.now)).last) m in
    λ i. record { suo = b.suo; once = b.once; working = b.working; state = state i }
