-- Four digits are a code, and anything else is none.
use lib.Dec.{lit≤}
use Rattle.ground.proofs.Bools.{refused, passed}
use Rattle.message.proofs.Places.{fitting}
use Rattle.desk.proofs.Replies.{code_short, code_unread, code_read}
use Rattle.desk.proofs.code_in.Goals as goal

pub returns-then-text-ne4 : goal.returns-then-text-ne4
returns-then-text-ne4 c = code_short _ _ c.between-text.ensures c.if-text-ne4.true

pub returns-then-not-all_digits : goal.returns-then-not-all_digits
returns-then-not-all_digits c = code_unread _ _ c.between-text.ensures (refused c.all_digits.ensures c.if-not-all_digits.true-raw)

pub overflow_cast-result : goal.overflow_cast-result
overflow_cast-result c =
    record { fits = fitting 12 4 _ _ c.between-text.ensures _ (lit≤ tt) c.number.ensures }

pub returns : goal.returns
returns c =
    code_read _ _ c.between-text.ensures _ c.if-text-ne4.false
    (passed c.all_digits.ensures c.if-not-all_digits.false-raw) c.number.ensures
