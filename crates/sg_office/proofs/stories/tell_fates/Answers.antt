-- Each turn adds the next ballot, where it was used.
use Rattle.std.proofs.Common.{◌≡◌, ℕ, ◌+◌, not, map, arith, ap, sym, ◌∙◌}
use Rattle.std.specs.List.{filter}
use Rattle.sg_plan.specs.Ballots.{ballots_of}
use Rattle.sg_plan.specs.declared.plan.Fate.{Fate}
use Rattle.sg_streams.specs.Numbers.{numbers_below}
use Rattle.sg_post.specs.declared.story.Told.{Told}
use Rattle.sg_histories.specs.Stories.{is_unused_fate, told_of}
use Rattle.sg_office.specs.inside.Now.{fate_at}
use Rattle.sg_office.proofs.Told.{told-more, told-none, told-same}
use Rattle.sg_office.proofs.stories.tell_fates.Goals as goal

pub loop-place-init : goal.loop-place-init
loop-place-init c = c.new-fates.ensures ∙ sym (told-none (λ (told : Told). not (is_unused_fate told.fate)) (λ (place : ℕ). told_of (fate_at c.args.slots.now) (place + 1)))

pub loop-place-preserved-then-is_unused : goal.loop-place-preserved-then-is_unused
loop-place-preserved-then-is_unused c =
    told-same (λ (told : Told). not (is_unused_fate told.fate)) (λ (place : ℕ). told_of (fate_at c.args.slots.now) (place + 1)) c.loop-place.place c.loop-place.fates
    (ap not (ap is_unused_fate (sym c.fate_at-fate.ensures) ∙ sym c.is_unused.ensures ∙ c.if-is_unused.true)) c.loop-place.invariant

pub loop-place-preserved : goal.loop-place-preserved
loop-place-preserved c =
    told-more (λ (told : Told). not (is_unused_fate told.fate)) (λ (place : ℕ). told_of (fate_at c.args.slots.now) (place + 1)) c.loop-place.place c.loop-place.fates c.push.new.self
    (record { ballot = c.loop-place.place + 1; fate = c.in_ok-copy.field-0 })
    (ap not (ap is_unused_fate (sym c.fate_at-fate.ensures) ∙ sym c.is_unused.ensures ∙ c.if-is_unused.false)) c.loop-place.invariant
    (ap (λ (what : Fate). record { ballot = c.loop-place.place + 1; fate = what }) (c.in_ok-copy.ensures ∙ c.fate_at-fate.ensures)) c.in_ok-push.ensures.ok

pub returns : goal.returns
returns c =
    let all : c.loop-place.place ≡ ballots_of c.args.index.now = omega (arith, c.loop-place-test.false, c.loop-place.auto.place-end, c.ballots-place-end.ensures) in
    c.loop-place.invariant ∙ ap (λ n. filter (λ (told : Told). not (is_unused_fate told.fate)) (map (λ (place : ℕ). told_of (fate_at c.args.slots.now) (place + 1)) (numbers_below n))) all
