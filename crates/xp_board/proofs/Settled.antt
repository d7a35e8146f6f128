-- A vCPU that is settled on the last recorded entry of a table in its work has found the entry's frame live.
use Rattle.std.proofs.Common.{◌≡◌, ◌≢◌, ℕ, ◌+◌, ◌-◌, true, false, List, Option, Some, None, IsTrue, refl, sym, ◌∙◌, inl, inr, arith, ◌<◌, ap}
use Rattle.std.proofs.lemmas.Bool.{cases_Bool}
use Rattle.xp_words.specs.declared.kind.KindWord.{KindWord}
use Rattle.xp_words.specs.declared.kind.PageType.{PageType}
use Rattle.xp_words.specs.declared.entry.Demand.TheVariants.{Typed}
use Rattle.xp_words.specs.Entries.{demand_at}
use Rattle.xp_words.specs.PageTypes.{is_table}
use Rattle.xp_words.specs.KindWords.{kind_fields}
use Rattle.xp_words.specs.Machine.{Machine}
use Rattle.xp_words.specs.declared.place.Place.{Place}
use Rattle.xp_words.specs.declared.place.Place.TheVariants.{Kind, Cell}
use Rattle.xp_words.specs.Places.{Sizes, sizes_of}
use Rattle.xp_board.specs.declared.holdings.Made.{Made}
use Rattle.xp_board.specs.declared.holdings.Unsettled.{Unsettled}
use Rattle.xp_board.specs.declared.holdings.Work.{Work}
use Rattle.xp_board.specs.declared.holdings.Holdings.{Holdings}
use Rattle.xp_board.specs.Steps.{some_since, last_since}
use Rattle.xp_board.specs.Readings.{is_live_word}
use Rattle.xp_board.specs.Recorded.{entry_demand}
use Rattle.xp_board.specs.WellFormed.{LastIs}
use Rattle.xp_board.specs.Settling.{settles_word, is_settled}
use Rattle.xp_board.proofs.WorkFacts.{Works, seen_asks}
use Rattle.xp_board.specs.Hands.{work_on}
use Rattle.xp_board.specs.Valid.{IsUnsettled}
use Rattle.xp_board.specs.Sound.{Sound}
use Rattle.xp_board.proofs.Works.{one_vcpu}
use Rattle.xp_board.proofs.HandLists.{first-some}

unmarked_by : (k : KindWord) (r : ℕ) → (k.unflushed ≡ true → r ≡ 0) → r ≢ 0 → k.unflushed ≡ false
unmarked_by k r h some = elim (cases_Bool k.unflushed) [ inl t ↦ absurd (some (h t)) | inr f ↦ f ]

last_of : (z : Sizes) (e : Work) (xs : List Made) (u : Unsettled) → LastIs z e xs e.unsettled → e.unsettled ≡ Some u → (w : ℕ) → u.word ≡ Some w →
    last_since z e.unmarked (Cell e.frame (e.recorded - 1)) xs ≡ Some w
last_of z e xs u k some w at = (rw some at k) w at

word_found : (n : Machine) (m : Place → ℕ) (h : ℕ → Holdings) (s f i g : ℕ) (t : PageType) (e : Work) (u : Unsettled) (o : Option ℕ) → Works n m h s f e →
    is_table (kind_fields e.word).kind ≡ true → (kind_fields e.word).unflushed ≡ false → e.unsettled ≡ Some u → u.word ≡ o → e.recorded - 1 ≡ i → entry_demand m f i ≡ Typed g t →
    IsTrue (settles_word (sizes_of n) (kind_fields e.word).kind (e.recorded - 1) u.since (h s).steps o) → some_since (sizes_of n) u.since (Kind g) is_live_word (h s).steps ≡ true
word_found n m h s f i g t e u None k table unmarked some at last asks settled = absurd (cc)
word_found n m h s f i g t e u (Some w) k table unmarked some at last asks settled =
    let noted : last_since (sizes_of n) e.unmarked (Cell e.frame (e.recorded - 1)) (h s).steps ≡ Some w = last_of (sizes_of n) e (h s).steps u (k.formed.last) some w at in
    let d : demand_at (kind_fields e.word).kind (e.recorded - 1) w ≡ Typed g t = rw last (seen_asks n m h s f e k i w table unmarked (rw last at noted) ∙ asks) in
    rw d at settled

pub settled_found : (n : Machine) (m : Place → ℕ) (h : ℕ → Holdings) (s f i g : ℕ) (t : PageType) (e : Work) (u : Unsettled) → Works n m h s f e →
    is_table (kind_fields e.word).kind ≡ true → e.unsettled ≡ Some u → i + 1 ≡ e.recorded → entry_demand m f i ≡ Typed g t → IsTrue (is_settled (sizes_of n) (h s) e) →
    some_since (sizes_of n) u.since (Kind g) is_live_word (h s).steps ≡ true
unfolding is_settled
settled_found n m h s f i g t e u k table some last asks settled =
    let unmarked = unmarked_by (kind_fields e.word) e.recorded k.agrees.marked (λ z. absurd (omega arith)) in
    word_found n m h s f i g t e u u.word k table unmarked some refl (omega arith) asks (rw some at settled)

-- what is unsettled of a table on which a vCPU works is so by this vCPU
pub unsettled_mine : (n : Machine) (m : Place → ℕ) (h : ℕ → Holdings) (s f : ℕ) (e : Work) → Sound n m h → s < (sizes_of n).vcpus → Works n m h s f e →
    (i g : ℕ) → (u : IsUnsettled (sizes_of n) h f i g) → work_on f (h s).works ≡ Some e → (u.vcpu ≡ s) × (u.work ≡ e)
unsettled_mine n m h s f e sound real k i g u here =
    let some = first-some (λ y. y.frame) f u.work (h u.vcpu).works u.here in
    let at : u.vcpu ≡ s = sym (one_vcpu n m h sound.alone f s u.vcpu real u.real k.some some) in
    let same : Some u.work ≡ Some e = sym u.here ∙ ap (λ t. work_on f (h t).works) at ∙ here in
    (at, cc)

-- so nothing is unsettled of a table on which a vCPU works and is settled
pub nothing_unsettled : (n : Machine) (m : Place → ℕ) (h : ℕ → Holdings) (s f : ℕ) (e : Work) → Sound n m h → s < (sizes_of n).vcpus → Works n m h s f e → work_on f (h s).works ≡ Some e →
    is_table (kind_fields e.word).kind ≡ true → IsTrue (is_settled (sizes_of n) (h s) e) → (i g : ℕ) (t : PageType) → entry_demand m f i ≡ Typed g t → IsUnsettled (sizes_of n) h f i g → ⊥
nothing_unsettled n m h s f e sound real k here table settled i g t asks u =
    let own = unsettled_mine n m h s f e sound real k i g u here in
    let found = settled_found n m h s f i g t e u.unsettled k table (rw (← own.1) u.kept) (rw (← own.1) u.last) asks settled in
    let unfound : some_since (sizes_of n) u.unsettled.since (Kind g) is_live_word (h s).steps ≡ false = rw (own.0) at u.unfound in
    cc
