-- All that the machine says over the bytes to come and the file's end,
-- each reply with the number of bytes up to it, and the table it leaves.
-- Assumes nothing.
use Rattle.std.specs.Prelude.{ℕ, ◌+◌, List, [], ◌∷◌, ◌++◌}
use Rattle.ground.specs.Choice.{pick}
use Rattle.reply.specs.declared.Answering.{Answering}
use Rattle.whole_file.specs.WholeFile.{Given, given_at}
use Rattle.session.specs.Events.{Turn, file_ended}
use Rattle.session.specs.Machine.{stepped, last_ended}
use Rattle.session.specs.declared.Session.{Session}

-- the reply of a step, if it gives one
unfoldable pub said_by : Turn → List Answering
said_by x = pick x.out.reply.given (x.out.reply.answer ∷ []) []

pub record Answered : Type 0 where
  pub given : List Given
  pub table : List ℕ

unfoldable pub before : List Given → Answered → Answered
before l x = record { given = l ++ x.given; table = x.table }

-- the file's end: a last record that no LF ended, and then what is due
unfoldable pub end_told : ℕ → Session → List ℕ → Answered
end_told at s b =
    let x : Turn = last_ended s b in
    let y : Turn = file_ended x.out.session x.table in
    record { given = given_at at (said_by x ++ said_by y); table = y.table }

unfoldable pub all_told : ℕ → Session → List ℕ → List ℕ → Answered
all_told at s b [] = end_told at s b
all_told at s b (byte ∷ xs) =
    let x : Turn = stepped s b byte in before (given_at (at + 1) (said_by x)) (all_told (at + 1) x.out.session x.table xs)
