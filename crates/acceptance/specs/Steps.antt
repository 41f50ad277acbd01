-- What the contracts of the private functions cite: the table of Grants.antt as choices one after the other, as the code takes them.
-- What acceptance promises is the table; proofs/Rows.antt shows that the two are the same.
-- Assumes nothing.
use Rattle.std.specs.Prelude.{ℕ, Bool, eqb, None, Option, Some}
use Rattle.ground.specs.Choice.{fails, pick}
use Rattle.calendar.specs.declared.Date.{Date}
use Rattle.keys.specs.Maker.{key_of, next_seed}
use Rattle.keys.specs.declared.KeyMaker.{KeyMaker}
use Rattle.customer.specs.declared.Customer.{Customer}
use Rattle.changeover.specs.Held.{changing}
use Rattle.changeover.specs.Changes.{with_working, without_previous}
use Rattle.acceptance.specs.declared.Granted.{Granted}

abbrev pub granted : (code : ℕ) → Customer → Option ℕ → (made seed : ℕ) → Granted
granted code c enclosed made seed = record { code = code; customer = c; enclosed = enclosed; made = made; seed = seed }

-- the rows of the previous key
unfoldable pub under_previous : Customer → KeyMaker → (request : ℕ) → Granted
under_previous c maker request =
    pick (eqb request 0) (granted 1002 c (Some c.working.key) 0 maker.seed)
    (pick (eqb request 1) (granted 1003 c (Some c.working.key) 0 maker.seed) (granted 1037 c None 0 maker.seed))

-- the row that makes a key
unfoldable pub new_key : Customer → KeyMaker → (clock : ℕ) (today : Date) → Granted
new_key c maker clock today =
    let key : ℕ = key_of maker.key maker.seed clock in
    granted 1003 (with_working c key today) (Some key) 1 (next_seed maker.key maker.seed clock)

-- the rows of the current key
unfoldable pub under_current : Customer → KeyMaker → (clock : ℕ) (today : Date) (request : ℕ) → Granted
under_current c maker clock today request =
    let busy : Bool = changing c.working.previous today in
    pick (eqb request 0) (granted 1001 c None 0 maker.seed)
    (pick (eqb request 1)
    (pick (fails c.leave) (granted 1004 c None 0 maker.seed)
    (pick busy (granted 1005 c None 0 maker.seed) (new_key c maker clock today)))
    (pick busy (granted 1036 (without_previous c) None 0 maker.seed) (granted 1037 c None 0 maker.seed)))
