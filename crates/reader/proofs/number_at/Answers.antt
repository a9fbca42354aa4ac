use mathlib.Core.Path.{refl, sym, ◌∙◌}
use native.Mathlib.Omega.{arith}
use lib.ListN.{get_or}
use Rattle.reader.proofs.Digits.{out, one_digit, number, no_digit_yet, other_byte, grows}
use Rattle.std.specs.Prelude.{Err}
use lib.ListN.{drop}
use mathlib.Core.Path.{ap, ◌≡◌}
use Rattle.reader.specs.Number.{number_from}
use Rattle.reader.proofs.number_at.Goals.{else-b-end-via-then-b-end+else-digits-gt0, else-b-end-via-else-b-end}
use Rattle.reader.proofs.number_at.Goals as goal

pub loop-at-init : goal.loop-at-init
loop-at-init c = (refl, omega arith, omega arith, omega arith)

pub overflow_mul-value : goal.overflow_mul-value
overflow_mul-value c = omega (arith, (grows {b = get_or c.args.text.now c.loop-at.at 0} c.loop-at.invariant.1 (sym c.may_follow.ensures ∙ c.if-may_follow.true)).small)

pub digit-requires : goal.digit-requires
digit-requires c = ((grows {b = get_or c.args.text.now c.loop-at.at 0} c.loop-at.invariant.1 (sym c.may_follow.ensures ∙ c.if-may_follow.true)).low, (grows {b = get_or c.args.text.now c.loop-at.at 0} c.loop-at.invariant.1 (sym c.may_follow.ensures ∙ c.if-may_follow.true)).high)

pub overflow_add-value : goal.overflow_add-value
overflow_add-value c = omega (arith, (grows {b = get_or c.args.text.now c.loop-at.at 0} c.loop-at.invariant.1 (sym c.may_follow.ensures ∙ c.if-may_follow.true)).small, (grows {b = get_or c.args.text.now c.loop-at.at 0} c.loop-at.invariant.1 (sym c.may_follow.ensures ∙ c.if-may_follow.true)).high, c.digit.ensures)

pub loop-at-preserved : goal.loop-at-preserved
loop-at-preserved c =
    let g = grows {b = get_or c.args.text.now c.loop-at.at 0} c.loop-at.invariant.1 (sym c.may_follow.ensures ∙ c.if-may_follow.true) in
    let d = c.digit.ensures in (
      c.loop-at.invariant.0 ∙ one_digit _ _ c.loop-at.at c.loop-at.digits c.loop-at.value c.loop-at-test.true (sym c.may_follow.ensures ∙ c.if-may_follow.true) ∙ rw d,
      rw d g.fits,
      omega (arith, g.few),
      omega arith,
    )

pub returns-then-digits-gt0 : goal.returns-then-digits-gt0
returns-then-digits-gt0 c = sym (c.loop-at.invariant.0 ∙ number _ _ c.loop-at.at c.loop-at.digits c.loop-at.value c.loop-at-test.true (sym c.may_follow.ensures ∙ c.if-may_follow.false) c.if-b-end.true c.if-digits-gt0.true)

pub returns-else-b-end : goal.returns-else-b-end
returns-else-b-end c =
    let p = sym c.may_follow.ensures ∙ c.if-may_follow.false in
    let stray = number_from c.args.end c.loop-at.at c.loop-at.digits c.loop-at.value (drop c.loop-at.at c.args.text.now) ≡ Err (record { place = c.loop-at.at }) in
    sym (c.loop-at.invariant.0 ∙ elim c.else-b-end.branch as (λ _. stray) [
      | else-b-end-via-then-b-end+else-digits-gt0 w ↦ no_digit_yet _ _ c.loop-at.at c.loop-at.digits c.loop-at.value c.loop-at-test.true p w.if-digits-gt0.false
      | else-b-end-via-else-b-end w ↦ other_byte _ _ c.loop-at.at c.loop-at.digits c.loop-at.value c.loop-at-test.true p w.if-b-end.false
    ])

pub returns : goal.returns
returns c =
    let e : c.loop-at.at ≡ c.max-place.result = omega (arith, c.max-place.ensures) in
    sym (c.loop-at.invariant.0 ∙ out _ _ c.loop-at.at c.loop-at.digits c.loop-at.value c.loop-at-test.false ∙ ap (λ k. Err (record { place = k })) e)
