-- There is room for all of them.
use mathlib.Core.Path.{refl, ap}
use native.Mathlib.Omega.{arith}
use borrow.Author.Rules.{rules}
use borrow.Rule.Slice.PartMut.{put_mid}
use Rattle.read_characters.proofs.Gathering.{kept_all}
use Rattle.read_characters.proofs.keep.Goals as goal

pub returns : goal.returns
returns c =
    let g = c.args.g in
    kept_all g c.args.bytes.now _ _ _ refl c.requires (search rules) (omega arith) (ap (put_mid g.count _ g.text) c.copy_from_slice.ensures.after)
