-- Fields 1 to 14 and the enciphered key are written one after the other.
use mathlib.Core.Path.{◌≡◌, refl}
use lib.ListN.{length, replicate}
use Rattle.build.specs.Messages.{suo_built}
use Rattle.build.proofs.Written.{suo_written}
use borrow.Author.Rules.{rules}
use Rattle.build.proofs.suo_text.Goals as goal

pub returns : goal.returns
unfolding suo_built
returns c =
    let g = c.args.g in
    let h = c.args.h in
    let bank : length h.bank ≡ 25 = search rules in
    let own : length h.own ≡ 25 = search rules in
    let software : length g.software ≡ 16 = search rules in
    let method : length g.method ≡ 3 = search rules in
    let stamp : length g.stamp ≡ 15 = search rules in
    suo_written h g.software g.method g.stamp g.area _ software method bank own stamp (replicate 128 0) refl
    c.encipher-cipher.ensures c.hex_digits-sealed.ensures c.put_opening.ensures c.put_middle.ensures
    c.write_bytes.ensures
