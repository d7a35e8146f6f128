-- When each step may be made, and what it leaves in hand.
use Rattle.std.proofs.Common.{◌≡◌, ◌≢◌, ℕ, ◌+◌, ◌<◌, ◌≤◌, ◌==◌, not, nat_le, if◌then◌else◌, Bool, true, false, length, None, IsTrue, refl, sym, ap, ◌∙◌, subst, inr, arith, []}
use Rattle.std.proofs.lemmas.Bool.Decides.{nat_tests}
use Rattle.xp_words.specs.Machine.{Machine}
use Rattle.xp_words.specs.declared.place.Place.TheVariants.{Life, Vcpu}
use Rattle.xp_words.specs.Places.{is_place, sizes_of}
use Rattle.xp_board.specs.Acts.{left_by}
use Rattle.xp_board.specs.After.{learned_own}
use Rattle.xp_board.specs.ContextSteps.{named_in}
use Rattle.xp_board.specs.Legal.{WritesSpelling}
use Rattle.xp_board.specs.LifeSteps.{LegalLife, MayBury}
use Rattle.xp_board.specs.Lists.{kept_of}
use Rattle.xp_board.specs.Readings.{is_context}
use Rattle.xp_board.specs.Spelling.{IsSpelling, is_life, is_vcpu_word}
use Rattle.xp_board.specs.Told.{PortValue}
use Rattle.xp_board.specs.declared.holdings.Holdings.{Holdings}
use Rattle.xp_board.specs.declared.step.Act.{Act}
use Rattle.xp_board.specs.declared.step.Act.TheVariants.{Cas, Load, Store}
use Rattle.xp_board.specs.declared.step.StepKind.TheVariants as kinds
use Rattle.xp_board.proofs.Numbers.{vcpu_there}
use Rattle.xp_board.proofs.Sums.{when_lost}
use Rattle.step_maker.specs.Holds.{Holds, MayWork, Same, still}
use Rattle.step_maker.specs.Moves.{May, Moves}
use Rattle.life_words.specs.Names.{MayEmptyWord}

-- ---- lives
may_live : (v : PortValue) (d : ℕ) (a : Act) → d < length v.post.machine.page_limit → MayWork v → WritesSpelling v.post.machine (Life d) a →
    LegalLife v.post.machine v.post.vcpu v.holdings (Life d) a → May v (Life d) a kinds.Life None
unfolding is_place
may_live v d a domain may spelling act = record { place = grind (arith, nat_tests); marked = tt; running = λ needs. may.running; spelling = spelling; act = act }

own_life : (s : ℕ) → s < 16 → is_life (s + 1) ≡ true
own_life s few = grind (arith, nat_tests)

pub may_doom : (v : PortValue) (s d new : ℕ) → s ≡ v.post.vcpu → s < length v.post.machine.vcpu_domain → new ≡ s + 1 → d < length v.post.machine.page_limit → MayWork v → May v (Life d) (Cas 0 new) kinds.Life None
unfolding IsSpelling
may_doom v s d new own real is domain may =
    may_live v d (Cas 0 new) domain may (let few = may.machine.few_vcpus in rw is (own_life s (omega arith))) (record { lives = refl; left = is ∙ ap (λ t. t + 1) own })

pub doomed_moves : (v w : PortValue) (s d new found : ℕ) → s ≡ v.post.vcpu → new ≡ s + 1 → Moves v w (Life d) (Cas 0 new) kinds.Life None found → Moves v w (Life d) (Cas 0 (v.post.vcpu + 1)) kinds.Life None found
doomed_moves v w s d new found own is m = subst (λ y. Moves v w (Life d) (Cas 0 y) kinds.Life None found) (is ∙ ap (λ t. t + 1) own) m

pub may_bury : (v : PortValue) (d : ℕ) → d < length v.post.machine.page_limit → MayWork v → MayBury v.post.machine v.post.vcpu d 255 v.holdings → May v (Life d) (Store 255) kinds.Life None
unfolding IsSpelling
may_bury v d domain may buries = may_live v d (Store 255) domain may refl buries

-- a hand that looks at nothing learns nothing of a life word
pub life_hand : (v w : PortValue) (d found : ℕ) (a : Act) → v.holdings.looking ≡ [] → Moves v w (Life d) a kinds.Life None found → Same v w
unfolding kept_of
life_hand v w d found a none m = ap still m.to ∙ ap (λ (h : Holdings). still (record v { holdings = h })) (by (found == 0))
  where
    by : (b : Bool) → (if b then record v.holdings { looking = kept_of (λ e. not (e.owner == d)) v.holdings.looking } else v.holdings) ≡ v.holdings
    by true = ap (λ xs. record v.holdings { looking = kept_of (λ e. not (e.owner == d)) xs }) none ∙ ap (λ xs. record v.holdings { looking = xs }) (sym none)
    by false = refl

-- ---- words of vCPUs
pub others_hand : (v w : PortValue) (s k found : ℕ) → s ≢ v.post.vcpu → Moves v w (Vcpu s k) Load kinds.Look None found → Same v w
unfolding left_by
others_hand v w s k found other m = ap still m.to ∙ ap (λ (h : Holdings). still (record v { holdings = h })) (when_lost s v.post.vcpu _ v.holdings other)

zero_word : (n : Machine) (k : ℕ) → IsTrue (is_context k) → is_vcpu_word n k 0 ≡ true
zero_word n k context = rw context (grind (arith, nat_tests))

pub may_empty : (v : PortValue) (s k : ℕ) → s < length v.post.machine.vcpu_domain → k < 38 → IsTrue (is_context k) → MayWork v → MayEmptyWord v s → May v (Vcpu s k) (Store 0) kinds.Context None
unfolding IsSpelling
may_empty v s k real word context may empties =
    record {
      place = vcpu_there (sizes_of v.post.machine) s k real word;
      marked = tt;
      running = λ needs. may.running;
      spelling = (omega arith, zero_word v.post.machine k context);
      act = inr (inr (record { word = rw context refl; none = refl; destroys = empties.destroys; stopped = empties.stopped }));
    }

context_out : Bool → ℕ → ℕ → Holdings → Holdings
context_out t k found h = if t then named_in k found h else h

out_of : (t : Bool) (k found : ℕ) (h : Holdings) → t ≡ true → context_out t k found h ≡ named_in k found h
unfolding context_out
out_of true k found h e = refl
out_of false k found h e = absurd (cc)

pub emptied_hand : (v w : PortValue) (s k found : ℕ) → IsTrue (is_context k) → MayEmptyWord v s → Moves v w (Vcpu s k) (Store 0) kinds.Context None found → Holds v w (named_in k found v.holdings)
unfolding left_by context_out
emptied_hand v w s k found context empties m =
    ap still m.to
    ∙ ap (λ (h : Holdings). still (record v { holdings = h }))
    (when_lost s v.post.vcpu (learned_own k 0 (context_out (is_context k) k found v.holdings)) (context_out (is_context k) k found v.holdings) empties.other ∙ out_of (is_context k) k found v.holdings context)

-- it named a frame of the machine, or none
pub names_inside : (v w : PortValue) (s k found : ℕ) → s < length v.post.machine.vcpu_domain → k < 38 → IsTrue (is_context k) → Moves v w (Vcpu s k) (Store 0) kinds.Context None found → found ≤ v.post.machine.frames
unfolding IsSpelling
names_inside v w s k found real word context m =
    let spelled = m.finds.sound.spelled.spelled (Vcpu s k) (vcpu_there (sizes_of v.post.machine) s k real word) in
    let is = rw context at spelled.1 in
    subst (λ y. y ≤ v.post.machine.frames) m.finds.word (let e : nat_le _ v.post.machine.frames ≡ true = is in grind (arith, nat_tests))
