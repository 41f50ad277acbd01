-- The parts are written one after the other.
use mathlib.Core.Path.{sym, ◌∙◌}
use native.Mathlib.Omega.{arith}
use Rattle.codec.specs.Layout.{laid, width}
use Rattle.codec.proofs.Laws.{laid_is, sized}
use Rattle.session_bytes.specs.Session.{state_shape, state_to, running_shape, running_to}
use Rattle.session_bytes.proofs.Fields.{running_scalar}
use Rattle.session_bytes.proofs.store_running.Goals as goal

pub returns : goal.returns
unfolding laid width
returns c =
    let r = c.args.a.running in
    let v = running_to c.args.a in
    rw (
      c.store_state-3.ensures ∙ sym (laid_is state_shape (state_to r.last) (tt, (tt, tt)) 448 c.store_state-2.new.b (omega arith)),
      c.store_state-2.ensures ∙ sym (laid_is state_shape (state_to r.solid) (tt, (tt, tt)) 424 c.store_state.new.b (omega arith)),
      c.store_state.ensures ∙ sym (laid_is state_shape (state_to r.start) (tt, (tt, tt)) 400 c.store_key.new.b (omega arith)),
      c.store_key.ensures,
    )
    (laid_is running_shape v (sized running_shape running_scalar v) 391 c.args.b.now (omega arith))
