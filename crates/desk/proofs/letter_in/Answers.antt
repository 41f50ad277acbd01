-- The letter is one of two, or there is none.
use Rattle.ground.proofs.Bools.{said}
use Rattle.text.specs.Letters.{letters}
use Rattle.desk.proofs.Replies.{letter_k, letter_e, no_letter}
use Rattle.desk.proofs.letter_in.Goals as goal

pub returns-then-same_bytes : goal.returns-then-same_bytes
unfolding letters
returns-then-same_bytes c =
    letter_k _ _ c.between-text.ensures (said c.same_bytes.ensures c.if-same_bytes.true)

pub returns-then-same_bytes-2 : goal.returns-then-same_bytes-2
unfolding letters
returns-then-same_bytes-2 c =
    letter_e _ _ c.between-text.ensures (said c.same_bytes-2.ensures c.if-same_bytes-2.true)

pub returns : goal.returns
unfolding letters
returns c =
    no_letter _ _ c.between-text.ensures (said c.same_bytes.ensures c.if-same_bytes.false)
    (said c.same_bytes-2.ensures c.if-same_bytes-2.false)
