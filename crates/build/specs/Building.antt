-- The calls that build (document 02, R-6): what each gives, and when it refuses.
-- Assumes nothing.
use Rattle.std.specs.Prelude.{ℕ, Bool, true, List, [], ◌∷◌, eqb, ltb, replicate, None, Option, Some}
use Rattle.ground.specs.Choice.{either, fails, pick}
use Rattle.text.specs.Characters.{blank}
use Rattle.keys.specs.Maker.{made_of}
use Rattle.keys.specs.declared.KeyMaker.{KeyMaker}
use Rattle.des.specs.Des.{enciphered}
use Rattle.digest.specs.Running.{begun, alike, took_bytes, ended, answered}
use Rattle.message.specs.Order.{first_failing}
use Rattle.message.specs.Rules.{form_of, form_checks}
use Rattle.message.specs.Fields.{method_of}
use Rattle.message.specs.declared.Kind.{Kind}
use Rattle.message.specs.declared.Kind.TheVariants.{Esi, Suo, Var}
use Rattle.message.specs.declared.Extent.TheVariants.{Whole}
use Rattle.message.specs.declared.About.TheVariants.{Answered}
use Rattle.whole_file.specs.Messages.{known_text}
use Rattle.verdict.specs.Outcomes.{is_sound}
use Rattle.refusals.specs.Refusals.{Refusal, refusal, lowest}
use Rattle.desk.specs.Sent.{sent_by}
use Rattle.desk.specs.declared.Held.{Held}
use Rattle.desk.specs.declared.Sent.{Sent}
use Rattle.desk_bytes.specs.Bytes.{nothing_sent}
use Rattle.build.specs.Messages.{esi_built, suo_built, var_built}
use Rattle.build.specs.declared.Given.{Given}
use Rattle.build.specs.declared.Batch.{Batch}
use Rattle.build.specs.declared.BuiltMessage.{BuiltMessage}
use Rattle.build.specs.declared.BuiltSuo.{BuiltSuo}

-- ---- refusals

-- 13 exactly if the base finds 1010 or 1011 in the message with these fields
unfoldable pub breaks_rules : Kind → List ℕ → Bool
breaks_rules kind m =
    fails (is_sound (first_failing (form_checks (form_of kind) Answered (record { extent = Whole; blank = true; text = known_text kind m }))))

-- 11 where a generation is none; a desk that is opened and kept by its own calls has none such
unfoldable pub other_generation : Held → Bool
other_generation h = either (ltb 9 h.transport.generation) (ltb 9 h.working.generation)

unfoldable pub building_refusals : Kind → Held → (message : List ℕ) → List Refusal
building_refusals kind h m = refusal 11 (other_generation h) ∷ refusal 13 (breaks_rules kind m) ∷ []

-- ---- what a call hands back; where it refuses, zeros

unfoldable pub message_by : (refused : ℕ) (text : List ℕ) → Sent → BuiltMessage
message_by n text sent =
    record { refusal = n; text = pick (eqb n 0) text (replicate 161 0); sent = pick (eqb n 0) sent nothing_sent }

unfoldable pub no_batch : Batch
no_batch = record { suo = replicate 128 0; once = 0; working = 0; state = begun }

-- ---- an ESI

unfoldable pub esi_building : Held → (software stamp : List ℕ) (request : ℕ) → BuiltMessage
esi_building h software stamp request =
    let m : List ℕ = esi_built h software stamp request in
    message_by (lowest (building_refusals Esi h m)) m (sent_by m m)

-- ---- a SUO: its one-time key comes from the key maker at the given clock value

unfoldable pub suo_made : Held → KeyMaker → (clock : ℕ) → Given → List ℕ
suo_made h maker clock g =
    suo_built h g.software g.method g.stamp g.area (made_of maker clock).made

unfoldable pub suo_refusal : Held → KeyMaker → (clock : ℕ) → Given → ℕ
suo_refusal h maker clock g = lowest (building_refusals Suo h (suo_made h maker clock g))

-- the batch goes out under the working key of this moment
unfoldable pub suo_building : Held → KeyMaker → (clock : ℕ) → Given → BuiltSuo
suo_building h maker clock g =
    record {
      refusal = suo_refusal h maker clock g;
      batch = pick (eqb (suo_refusal h maker clock g) 0)
          (record { suo = suo_made h maker clock g; once = (made_of maker clock).made; working = h.working.key; state = begun })
          no_batch;
    }

-- a refused call leaves the key maker where it stood
unfoldable pub maker_after : Held → KeyMaker → (clock : ℕ) → Given → KeyMaker
maker_after h maker clock g = pick (eqb (suo_refusal h maker clock g) 0) (made_of maker clock).maker maker

-- ---- the records, one by one, each without its line end

unfoldable pub record_added : Batch → (characters : List ℕ) → Batch
record_added b r =
    record {
      suo = b.suo;
      once = b.once;
      working = b.working;
      state = (ended (method_of b.suo) (took_bytes (enciphered b.once) (alike b.state) r)).last;
    }

-- ---- a VAR

-- without any character left the digest is the start vector, zeros
unfoldable pub digest_number : Option ℕ → ℕ
digest_number None = 0
digest_number (Some x) = x

unfoldable pub var_made : Batch → (request : ℕ) → List ℕ
var_made b request =
    var_built b.suo b.working (digest_number (answered (enciphered b.once) b.state)) request

unfoldable pub var_building : Batch → (request : ℕ) → BuiltMessage
var_building b request =
    let m : List ℕ = var_made b request in
    message_by (lowest (refusal 13 (breaks_rules Var m) ∷ [])) m (sent_by b.suo m)
