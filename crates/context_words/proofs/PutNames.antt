-- A word that names a frame of one type is stored: when it may be, what it finds, and what it leaves in hand.
use Rattle.std.proofs.Common.{◌≡◌, ℕ, ◌+◌, ◌<◌, ◌≤◌, nat_le, nat_lt, is_some, ◌==◌, if◌then◌else◌, Bool, true, false, length, Option, Some, None, IsTrue, refl, sym, ap, ◌∙◌, subst, arith, inl, inr}
use Rattle.std.proofs.lemmas.Bool.Decides.{nat_tests}
use Rattle.xp_words.specs.ContextWords.{ldt_read}
use Rattle.xp_words.specs.Machine.{Machine}
use Rattle.xp_words.specs.Places.{sizes_of}
use Rattle.xp_words.specs.declared.kind.PageType.{PageType}
use Rattle.xp_words.specs.declared.place.Place.TheVariants.{Vcpu}
use Rattle.xp_board.specs.declared.holdings.Holdings.{Holdings}
use Rattle.xp_board.specs.declared.step.Act.TheVariants.{Store}
use Rattle.xp_board.specs.declared.step.StepKind.TheVariants as kinds
use Rattle.xp_board.specs.Acts.{left_by}
use Rattle.xp_board.specs.After.{learned_own}
use Rattle.xp_board.specs.ContextSteps.{FitsWord, MayName, context_type, named_in, named_out}
use Rattle.xp_board.specs.Readings.{is_context}
use Rattle.xp_board.specs.Spelling.{IsSpelling, is_vcpu_word}
use Rattle.xp_board.specs.Told.{PortValue}
use Rattle.xp_board.proofs.Numbers.{vcpu_there}
use Rattle.xp_board.proofs.Sums.{when_found}
use Rattle.step_maker.specs.Holds.{Holds, MayWork, still}
use Rattle.step_maker.specs.Moves.{May, Moves}
use Rattle.context_words.specs.Names.{MayPutName, naming, renamed}

names_word : (n : Machine) (k w : ℕ) → IsTrue (is_context k) → w ≤ n.frames → IsTrue (is_vcpu_word n k w)
names_word n k w is few = rw is (grind (arith, nat_tests))

first_if : (b a c : Bool) → b ≡ true → IsTrue (if b then a else c) → IsTrue a
first_if true a c is w = w
first_if false a c is w = absurd (cc)

within_by : (n : Machine) (k x : ℕ) → IsTrue (is_context k) → IsTrue (is_vcpu_word n k x) → x ≤ n.frames
within_by n k x is word =
    let y = first_if (is_context k) (nat_le x n.frames) (if k == 6 then nat_lt x 3 else if k == 7 then is_some (ldt_read x) else true) is word in grind (arith, nat_tests)

-- it names a frame of the machine, or none
pub name_within : (v w : PortValue) (k new x : ℕ) → k < 38 → IsTrue (is_context k) → Moves v w (Vcpu v.post.vcpu k) (Store new) kinds.Context None x → x ≤ v.post.machine.frames
unfolding IsSpelling
name_within v w k new x small is m =
    let spelled = m.finds.sound.spelled.spelled (Vcpu v.post.vcpu k) (vcpu_there (sizes_of v.post.machine) v.post.vcpu k m.finds.real small) in
    subst (λ y. y ≤ v.post.machine.frames) m.finds.word (within_by v.post.machine k _ is spelled.1)

module _ (v : PortValue) (k s : ℕ) (small : k < 38) (own : s ≡ v.post.vcpu) (there : s < length v.post.machine.vcpu_domain) (may : MayWork v) where
  real : v.post.vcpu < length v.post.machine.vcpu_domain
  real = subst (λ t. t < length v.post.machine.vcpu_domain) own there

  may_name : (w : ℕ) → IsTrue (is_context k) → w ≤ v.post.machine.frames → MayName v.post.machine v.post.vcpu v.post.vcpu k w v.holdings → May v (Vcpu v.post.vcpu k) (Store w) kinds.Context None
  unfolding IsSpelling
  may_name w is few names =
      let frames = may.machine.few_frames in
      record {
        place = vcpu_there (sizes_of v.post.machine) v.post.vcpu k real small;
        marked = tt;
        running = λ needs. may.running;
        spelling = (omega (arith, few, frames), names_word v.post.machine k w is few);
        act = inl names;
      }

  may_put_as : (new : Option ℕ) → MayPutName v k new → May v (Vcpu v.post.vcpu k) (Store (naming new)) kinds.Context None
  may_put_as None p = may_name 0 p.word (omega arith) (record { own = refl; word = p.word; names = inl refl })
  may_put_as (Some f) p =
      let inside = p.held.0 in
      may_name (f + 1) p.word (omega (arith, inside))
      (record {
        own = refl;
        word = p.word;
        names = inr (record { frame = f; names = refl; in_hand = p.held.1; fits = subst (λ t. FitsWord v.post.machine v.post.vcpu f v.holdings t) (sym p.typed) p.held.2 });
      })

  pub may_put : (x : ℕ) (new : Option ℕ) → x ≡ naming new → MayPutName v k new → May v (Vcpu s k) (Store x) kinds.Context None
  may_put x new is p = subst (λ t. May v (Vcpu t k) (Store x) kinds.Context None) (sym own) (subst (λ y. May v (Vcpu v.post.vcpu k) (Store y) kinds.Context None) (sym is) (may_put_as new p))

pub put_moves : (v w : PortValue) (k s x : ℕ) (new : Option ℕ) (old : ℕ) → s ≡ v.post.vcpu → x ≡ naming new → Moves v w (Vcpu s k) (Store x) kinds.Context None old → Moves v w (Vcpu v.post.vcpu k) (Store (naming new)) kinds.Context None old
put_moves v w k s x new old own is m =
    subst (λ t. Moves v w (Vcpu t k) (Store (naming new)) kinds.Context None old) own (subst (λ y. Moves v w (Vcpu s k) (Store y) kinds.Context None old) is m)

-- ---- the hand
unlearned : (k left : ℕ) (t : PageType) (h : Holdings) → IsTrue (is_context k) → context_type k ≡ Some t → learned_own k left h ≡ h
unlearned k left t h is typed = grind (arith, nat_tests)

pub put_hand : (v w : PortValue) (k : ℕ) (new : Option ℕ) (old : ℕ) → MayPutName v k new → Moves v w (Vcpu v.post.vcpu k) (Store (naming new)) kinds.Context None old → Holds v w (renamed k old (naming new) v.holdings)
unfolding left_by
put_hand v w k new old p m =
    ap still m.to ∙ ap (λ (h : Holdings). still (record v { holdings = h }))
    (when_found v.post.vcpu v.post.vcpu _ _ refl ∙ unlearned k (naming new) p.kind _ p.word p.typed ∙ ap (λ b. if b then named_in k old (named_out (naming new) v.holdings) else v.holdings) p.word)
