-- The contents of a field as received, which a reply to a fault shows (document 02, R-1).
-- Assumes nothing.
use Rattle.std.specs.Prelude.{ℕ, List, length, take, replicate}
use Rattle.ground.specs.Lists.{overlay}
use Rattle.message.specs.declared.About.{About}
use Rattle.message.specs.declared.About.TheVariants.{Answered, Closing}
use Rattle.message.specs.declared.Contents.{Contents}

-- the longest field has as many characters
abbrev pub contents_room : ℕ
contents_room = 17

-- a field's characters as a value with room for those of any field; zeros after the last
unfoldable pub contents_as : List ℕ → Contents
contents_as l = record { count = length (take contents_room l); text = overlay l (replicate contents_room 0) }

-- the characters that such a value holds
unfoldable pub held_in : Contents → List ℕ
held_in v = take v.count v.text

-- the message at fault: the one that is answered (an ESI, a frame's SUO), or the one that closes a frame (its VAR)
unfoldable pub at_fault : About → (answered closing : List ℕ) → List ℕ
at_fault Answered answered closing = answered
at_fault Closing answered closing = closing
