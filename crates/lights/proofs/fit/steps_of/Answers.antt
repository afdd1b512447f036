-- What the tests tell, in the words of the definition.
use Rattle.std.proofs.Common.{◌≡◌, Bool, true, false, List, length, sym, ◌∙◌, arith}
use Rattle.std.specs.Bool.{then_some}
use Rattle.lights.specs.Lights.{light_of, rises_to}
use Rattle.lights.specs.declared.fit.Steps.TheVariants.{Uneven}
use Rattle.lights.specs.inner.Fit.{Spaced}
use Rattle.lights.proofs.Rising.{facts_fit, fit_count, fit_rise}
use Rattle.lights.proofs.fit.steps_of.Goals as goal

pub returns-then-lights-ne256 : goal.returns-then-lights-ne256
returns-then-lights-ne256 c =
    record { fit_is = sym (fit_count c.args.lights.now (λ e. omega arith)); even_is = λ e. cc }

pub returns-then-rises_evenly : goal.returns-then-rises_evenly
returns-then-rises_evenly c =
    let e = c.rises_evenly.ensures c.if-rises_evenly.true in
    record { fit_is = sym (facts_fit c.args.lights.now (record { count = omega arith; rising = e.0 })); even_is = λ _. e.1 }

-- that they rise, where they are 256, tells that they are fit
by_rise : (lights : List _) → length lights ≡ 256 → (b : Bool) → b ≡ rises_to (light_of lights) 255 → Spaced lights (then_some b Uneven)
by_rise lights n true e = record { fit_is = e ∙ sym (fit_rise lights n); even_is = λ q. cc }
by_rise lights n false e = record { fit_is = e ∙ sym (fit_rise lights n); even_is = λ q. cc }

pub returns : goal.returns
returns c = rw c.then_some.ensures (by_rise c.args.lights.now (omega arith) c.rises.result c.rises.ensures)
