use Rattle.std.proofs.Common.{◌≡◌, ℕ, ◌-◌, ◌<◌, ◌≤◌, List, [], ◌∷◌, ◌++◌, length, refl, sym, ap, ◌∙◌, subst, rules, arith}
use Rattle.std.proofs.lemmas.List.{length_push}
use Rattle.cgl_derive.specs.declared.step.Step.{out-Step, out-roll-Step}
use Rattle.cgl_derive.specs.declared.step.Step.TheVariants.{rolls-Knap}
use Rattle.cgl_check.specs.declared.frames.Frame.{Frame}
use Rattle.cgl_check.specs.declared.path.Branch.TheVariants.{Left, Right}
use Rattle.cgl_check.specs.Covered.{CoversLayer, CoversList}
use Rattle.cgl_check.specs.Room.{HasTable}
use Rattle.cgl_check.specs.Walk.{AreEntered, HasNarrowGivens, meant_at, steps_at}
use Rattle.cgl_check.proofs.CoverLaws.{CoversSteps, covers_more, list_covered, split_covered, step_covered, there_below}
use Rattle.cgl_check.proofs.WalkLaws.{branch_entered, branch_list, step_is}
use Rattle.cgl_check.proofs.tables.+tables.Goals as goal

pub branch_places-list_places-places-requires : goal.branch_places-list_places-places-requires
branch_places-list_places-places-requires t c =
    let root = c.args.scope.now.steps.now in
    let old = c.args.frames.now in
    let s = c.args.split.now in
    let f : Frame = record { step = c.args.at; branch = c.args.branch } in
    let push = sym c.push.ensures in
    let longer = ap (λ fs. length fs) c.push.ensures ∙ length_push old f in (
      search rules,
      (
        subst (λ (fs : List Frame). AreEntered root fs) push (branch_entered root old f s c.requires.entered c.requires.split c.requires.narrow),
        (
          omega (arith, longer, c.requires.depth),
          subst (λ (fs : List Frame). steps_at root fs ≡ c.branch_of.result.now) push (branch_list root old f s c.requires.split ∙ sym c.branch_of.ensures),
        ),
      ),
    )

pub list_places-loop-at-preserved : goal.list_places-loop-at-preserved
list_places-loop-at-preserved t c =
    let scope = c.args.scope.now in
    let at = c.loop-at.at in
    let s = c.index-steps-at.result in
    let steps = c.args.steps.now in
    let here = step_is steps steps at s refl (omega arith) c.index-steps-at.is in
    let now = subst (λ (fs : List Frame). CoversLayer scope fs c.args.depth at c.step_places-more.result (out-Step s)) c.loop-at.invariant.frames c.step_places-more.ensures.covered in
    let R : List Frame → Type 0 = λ fs. (places : ℕ) → CoversLayer scope fs c.args.depth at places (out-Step s) → c.step_places-more.result ≤ places in
    let least = λ (same : c.loop-at.frames ≡ c.args.frames.now). subst R same c.step_places-more.ensures.least in
    record {
      covered = covers_more scope c.args.frames.now c.args.depth at c.loop-at.places c.step_places-more.result c.max-places.result steps s c.loop-at.invariant.covered now here
          (omega (arith, c.max-places.ensures)) (omega (arith, c.max-places.ensures));
      least = λ places covers.
          let there = step_is steps (steps_at scope.steps.now c.args.frames.now) at s c.requires.steps (omega arith) c.index-steps-at.is in
          let layer = step_covered scope c.args.frames.now c.args.depth at places s c.requires.entered covers there in
          let more = least c.loop-at.invariant.frames places layer in
          let before = c.loop-at.invariant.least places covers in
          omega (arith, c.max-places.ensures, more, before);
      frames = c.step_places-more.ensures.frames ∙ c.loop-at.invariant.frames;
    }

pub list_places-returns-clause-least : goal.list_places-returns-clause-least
list_places-returns-clause-least t c = c.loop-at.invariant.least

pub split_places-returns-clause-least : goal.split_places-returns-clause-least
split_places-returns-clause-least t c = λ places covers.
    let scope = c.args.scope.now in
    let narrow : HasNarrowGivens c.args.split.now = search rules in
    let some : 0 < c.args.depth = omega arith in
    let left = c.branch_places-left.ensures.least places (covers Left narrow some) in
    let P : List Frame → Type 0 = λ fs. CoversList scope (fs ++ record { step = c.args.at; branch = Right } ∷ []) (c.args.depth - 1) places in
    let right = c.branch_places-right.ensures.least places (subst P (sym c.branch_places-left.ensures.frames) (covers Right narrow some)) in
    omega (arith, c.max.ensures, left, right)

pub step_places-returns-in-Knap-clause-least : goal.step_places-returns-in-Knap-clause-least
step_places-returns-in-Knap-clause-least t c = λ places covers.
    let scope = c.args.scope.now in
    let level = ap out-Step c.in-Knap.is ∙ ap out-Step (sym (rolls-Knap c.in-Knap.knap)) ∙ out-roll-Step _ in
    let here = subst (CoversLayer scope c.args.frames.now c.args.depth c.args.at places) level covers in
    c.knap_places.ensures.least places (subst (λ (fs : List Frame). HasTable places (meant_at scope fs c.args.at c.in-Knap.knap.from)) (sym c.as_slice.ensures.value) here)

pub list_places-returns-clause-covered : goal.list_places-returns-clause-covered
list_places-returns-clause-covered t c =
    let scope = c.args.scope.now in
    let old = c.args.frames.now in
    let steps = c.args.steps.now in
    let own : CoversSteps scope old c.args.depth c.loop-at.places steps = λ k s e. let below = there_below steps k s e in c.loop-at.invariant.covered k s (omega (arith, below)) e in
    list_covered scope old c.args.depth c.loop-at.places (subst (CoversSteps scope old c.args.depth c.loop-at.places) (sym c.requires.steps) own)

pub split_places-returns-clause-covered : goal.split_places-returns-clause-covered
split_places-returns-clause-covered t c =
    let scope = c.args.scope.now in
    let old = c.args.frames.now in
    let right = subst (λ (fs : List Frame). CoversList scope (fs ++ record { step = c.args.at; branch = Right } ∷ []) (c.args.depth - 1) c.branch_places-right.result) c.branch_places-left.ensures.frames
    c.branch_places-right.ensures.covered in
    split_covered scope old c.args.depth c.args.at c.branch_places-left.result c.branch_places-right.result c.max.result c.args.split.now c.branch_places-left.ensures.covered right
    (omega (arith, c.max.ensures)) (omega (arith, c.max.ensures))
