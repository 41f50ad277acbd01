-- Messages with blanks in place of what is passed over: the characters between the layout's length and the stated one (document 02, R-2).
-- Assumes nothing.
use Rattle.std.specs.Prelude.{ℕ, ◌-◌, List, [], ◌∷◌, ◌++◌, length, take, drop, replicate}
use Prim.Native.String.{String}
use Rattle.ground.specs.Choice.{both, pick}
use Rattle.ground.specs.Lists.{part}
use Rattle.text.specs.Characters.{blank}
use Rattle.message.specs.Layout.{layout_length}
use Rattle.message.specs.declared.Kind.{Kind}
use Rattle.message.specs.declared.Kind.TheVariants.{Esi, Suo, Var}
use Rattle.opening.specs.declared.Opening.{Opening}
use Rattle.whole_file.specs.Records.{Item, line, past_size}
use Rattle.whole_file.specs.Messages.{begins, extent_of, is_whole, wanted_length}
use Rattle.whole_file.specs.WholeFile.{Situation, before_esi, collecting_esi, outside, collecting_suo, in_frame, collecting_var, closed}
use Rattle.whole_file.specs.WholeFile.{Standing, record_in, past_in}

-- a message's characters, as far as they came, with blanks in the rest
unfoldable pub rest_blanked : Kind → List ℕ → List ℕ
rest_blanked kind chars =
    take (layout_length kind) chars
    ++ (replicate (length (part (layout_length kind) (wanted_length chars - layout_length kind) chars)) blank ++ drop (wanted_length chars) chars)

-- a record that may begin a message
unfoldable pub start_blanked : String → Kind → List ℕ → List ℕ
start_blanked tag kind chars = pick (both (begins tag chars) (is_whole (extent_of kind chars))) (rest_blanked kind chars) chars

-- a record that goes on with one
unfoldable pub on_blanked : Kind → (sofar chars : List ℕ) → List ℕ
on_blanked kind sofar chars = drop (length sofar) (rest_blanked kind (sofar ++ chars))

unfoldable pub record_blanked : Situation → List ℕ → List ℕ
record_blanked before_esi chars = start_blanked ">>ESI" Esi chars
record_blanked (collecting_esi sofar) chars = on_blanked Esi sofar chars
record_blanked (outside told) chars = start_blanked ">>SUO" Suo chars
record_blanked (collecting_suo sofar) chars = on_blanked Suo sofar chars
record_blanked (in_frame f) chars = start_blanked ">>SUO" Suo (start_blanked ">>VAR" Var chars)
record_blanked (collecting_var sofar f) chars = on_blanked Var sofar chars
record_blanked closed chars = chars

-- the items of a file, read from a standing on
unfoldable pub items_blanked : Opening → Standing → List Item → List Item
items_blanked o s [] = []
items_blanked o s (line r ∷ l) =
    line (record { chars = record_blanked s.situation r.chars; end = r.end })
    ∷ items_blanked o (record_in o s s.situation r.chars).after l
items_blanked o s (past_size at ∷ l) = past_size at ∷ items_blanked o (past_in o s s.situation).after l
