-- A message's end and its first record, by its kind; what a later record does is `collecting_ends`.
-- Assumes nothing.
use Rattle.std.specs.Prelude.{ℕ, List}
use Rattle.message.specs.declared.Extent.{Extent}
use Rattle.message.specs.declared.Kind.{Kind}
use Rattle.message.specs.declared.Kind.TheVariants.{Esi, Suo, Var}
use Rattle.session.specs.Events.{Turn, silent, collected_by, esi_done, suo_done, var_done, esi_start, suo_start, var_start}
use Rattle.session.specs.declared.Session.{Session}

unfoldable pub message_done : Kind → Extent → Session → List ℕ → Turn
message_done Esi extent s b = esi_done s b (collected_by Esi extent s.gathered)
message_done Suo extent s b = silent (suo_done s b (collected_by Suo extent s.gathered)) b
message_done Var extent s b = var_done s b (collected_by Var extent s.gathered)

unfoldable pub message_start : Kind → Session → List ℕ → Turn
message_start Esi s b = esi_start s b
message_start Suo s b = silent (suo_start s b) b
message_start Var s b = var_start s b
