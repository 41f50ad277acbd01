-- A bank with one customer, whose keys are those of document 001's appendix 3,
-- and an ESI and a batch of his with their checksums and digest, which were made with another DES.
-- Assumes nothing.
use Rattle.std.specs.Prelude.{ℕ, true, List, [], ◌∷◌, ◌++◌, replicate, None}
use Rattle.text.specs.Characters.{blank}
use Rattle.text.specs.Letters.{letters}
use Rattle.table.specs.Table.{Table}

unfoldable pub bank_with : List ℕ → Table
bank_with holidays =
    record {
      day = 941017;
      settings =
          record {
            bank = letters "003701234567" ++ replicate 13 blank;
            software = letters "FRONT 4" ++ replicate 9 blank;
            floor = 110;
            maker = record { key = 0; seed = 0 };
          };
      holidays = holidays;
      customers =
          record {
            who = letters "12345678" ++ replicate 17 blank;
            types = 1;
            agreed = true;
            leave = true;
            length = record { 0 = 30 };
            transport = record { generation = 1; key = 0x379723239789FD9D; previous = None };
            working = record { generation = 0; key = 0xAEBAE983D6406D07; previous = None };
            count = 0;
            stamps = replicate 64 0;
            once = replicate 64 0;
          } ∷ [];
    }

-- an ESI with the stamp 941015073000001
unfoldable pub esi : List ℕ
esi =
    letters ">>ESI161120 0000PAYROLL 1       SMH003701234567             12345678                 10941015073000001" ++
    replicate 42 blank ++
    letters "C616A9B4CECEDF090"

-- a batch with the stamp 941015073000002 under SKH: its SUO, the records `PAYMENT 1··` and `12.50`, its VAR
unfoldable pub suo : List ℕ
suo =
    letters ">>SUO128120 0000PAYROLL 1       SKH003701234567             12345678                 10941015073000002S" ++
    replicate 9 blank ++
    letters "50B42714D1C79523"

unfoldable pub var : List ℕ
var =
    letters ">>VAR161120 0000PAYROLL 1       SMH003701234567             12345678                 10941015073000002S" ++
    replicate 9 blank ++
    letters "50B42714D1C795234CFCBCBEB47677D3B4A9D1C40682E3700"
