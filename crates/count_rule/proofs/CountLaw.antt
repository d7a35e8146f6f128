-- The counts after an act: each moves as much as what is counted.
use Rattle.std.proofs.Common.{◌≡◌, ◌≢◌, ℕ, ◌+◌, ◌<◌, Option, Some, None, sym, ◌∙◌, subst, arith, IsTrue, inl, inr}
use Rattle.std.proofs.lemmas.Bool.{cases_eq}
use Rattle.xp_words.specs.declared.kind.PageType.{PageType}
use Rattle.xp_words.specs.declared.entry.Demand.TheVariants.{Typed}
use Rattle.xp_words.specs.Machine.{Machine}
use Rattle.xp_words.specs.declared.place.Place.{Place}
use Rattle.xp_words.specs.declared.place.Place.TheVariants.{Pages, Vcpu, Refs}
use Rattle.xp_words.specs.Places.{sizes_of}
use Rattle.xp_board.specs.declared.holdings.Holdings.{Holdings}
use Rattle.xp_board.specs.Lists.{times, EachOf}
use Rattle.xp_board.specs.Readings.{kind_at, ref_count, allocated_mark, type_count, is_context}
use Rattle.xp_board.specs.Hands.{typed_to, locks_on, hand, typed_hand}
use Rattle.xp_board.specs.ContextSteps.{context_type}
use Rattle.xp_board.specs.Sums.{sum_below}
use Rattle.xp_board.specs.Recorded.{held, entry_demand, names, names_typed, entries, contexts, marks, HasType, is_page_of, TypesAgree, CountsAgree}
use Rattle.xp_board.proofs.Sums.{hands-one, hands-part}
use Rattle.xp_board.proofs.ListCounts.{EachOf-counted, EachOf-both}
use Rattle.xp_board.proofs.Counted.{entries-same, contexts-same, entries-part, contexts-part, names_typed-typed}
use Rattle.xp_board.proofs.HandLists.{EachOf-map}

-- the pages that domains have
abbrev pub pages_of : Machine → (Place → ℕ) → ℕ → ℕ
pages_of n m d = sum_below (sizes_of n).frames (λ f. is_page_of d (m (Refs f)))

module _ (n : Machine) (s : ℕ) (m m2 : Place → ℕ) (b c : ℕ → Holdings) (vcpu : s < (sizes_of n).vcpus) (others : (t : ℕ) → t ≢ s → c t ≡ b t) where
  -- what holds of the hand that moved and of each hand before holds of each
  pub each_vcpu : (P : ℕ → Holdings → Type 0) → P s (c s) → ((t : ℕ) → t < (sizes_of n).vcpus → t ≢ s → P t (b t)) → (t : ℕ) → t < (sizes_of n).vcpus → P t (c t)
  each_vcpu P mine old t l =
      elim (cases_eq t s) [
        | inl at ↦ subst (λ x. P x (c x)) (sym at) mine
        | inr off ↦ subst (P t) (sym (others t off)) (old t l off)
      ]

  pub record Counted : Type 0 where
    pub refs : (g : ℕ) →
        ref_count (m2 (Refs g)) + (entries (names g) (sizes_of n) m b + contexts (sizes_of n) m g + allocated_mark (m (Refs g)) + marks (kind_at m g) + hand g (b s))
        ≡ ref_count (m (Refs g)) + (entries (names g) (sizes_of n) m2 c + contexts (sizes_of n) m2 g + allocated_mark (m2 (Refs g)) + marks (kind_at m2 g) + hand g (c s))
    pub types : (g : ℕ) →
        type_count (kind_at m2 g) + (entries (names_typed g) (sizes_of n) m b + contexts (sizes_of n) m g + marks (kind_at m g) + typed_hand g (b s))
        ≡ type_count (kind_at m g) + (entries (names_typed g) (sizes_of n) m2 c + contexts (sizes_of n) m2 g + marks (kind_at m2 g) + typed_hand g (c s))
    pub kinds : TypesAgree (sizes_of n) m2 c
    pub pages : (d : ℕ) → d < (sizes_of n).domains → m2 (Pages d) + (pages_of n m d + times d (b s).credits) ≡ m (Pages d) + (pages_of n m2 d + times d (c s).credits)

  pub counts_law : Counted → CountsAgree (sizes_of n) m b → CountsAgree (sizes_of n) m2 c
  counts_law moved old =
      record {
        refs = λ g. let was = old.refs g in let o = hands-one (hand g) (sizes_of n) b c s vcpu others in let k = moved.refs g in omega arith;
        types = λ g. let was = old.types g in let o = hands-one (typed_hand g) (sizes_of n) b c s vcpu others in let k = moved.types g in omega arith;
        kinds = moved.kinds;
        pages = λ d l.
            let was = old.pages d l in
            let o = hands-one (λ u. times d u.credits) (sizes_of n) b c s vcpu others in
            let k = moved.pages d l in
            omega arith;
      }

  -- ---- what is recorded stays
  pub record Steady : Type 0 where
    pub held_same : (f : ℕ) → held (sizes_of n) m2 c f ≡ held (sizes_of n) m b f
    pub demand_same : (f i : ℕ) → i < held (sizes_of n) m b f → entry_demand m2 f i ≡ entry_demand m f i
    pub inside : (f i : ℕ) → i < held (sizes_of n) m b f → f < (sizes_of n).frames
    pub context_same : (v k : ℕ) → IsTrue (is_context k) → m2 (Vcpu v k) ≡ m (Vcpu v k)
    -- a frame to which there is a typed reference keeps its type
    pub type_same : (g : ℕ) → 0 < type_count (kind_at m g) → (kind_at m2 g).kind ≡ (kind_at m g).kind

  pub HasType-same : (g : ℕ) (o : Option PageType) → (kind_at m2 g).kind ≡ (kind_at m g).kind → HasType m g o → HasType m2 g o
  HasType-same g (Some t) e k = e ∙ k
  HasType-same g None e k = tt

  module _ (steady : Steady) (old : CountsAgree (sizes_of n) m b) where
    pub entries_steady : (g f i : ℕ) (t : PageType) → i < held (sizes_of n) m2 c f → entry_demand m2 f i ≡ Typed g t → (kind_at m2 g).kind ≡ t
    entries_steady g f i t l e =
        let was : i < held (sizes_of n) m b f = rw (steady.held_same f) at l in
        let d : entry_demand m f i ≡ Typed g t = sym (steady.demand_same f i was) ∙ e in
        let part = entries-part (names_typed g) (sizes_of n) m b f i (steady.inside f i was) was in
        let one = names_typed-typed g t (entry_demand m f i) d in
        let all = old.types g in
        steady.type_same g (omega arith) ∙ old.kinds.entries f i g t was d

    typed_same : (t : ℕ) → t < (sizes_of n).vcpus → EachOf (λ e. HasType m2 e.frame e.kind) (b t).typed
    unfolding typed_hand
    typed_same t l =
        EachOf-map (λ e. (0 < typed_to e.frame (b t).typed) × HasType m e.frame e.kind) (λ e. HasType m2 e.frame e.kind) (b t).typed
        (λ e k.
        let part = hands-part (typed_hand e.frame) (sizes_of n) b t l in
        let all = old.types e.frame in
        let some = k.0 in
        HasType-same e.frame e.kind (steady.type_same e.frame (omega arith)) k.1)
        (EachOf-both (λ e. 0 < typed_to e.frame (b t).typed) _ _ (EachOf-counted (λ e. e.frame) (b t).typed) (old.kinds.typed t l))

    locks_same : (t : ℕ) → t < (sizes_of n).vcpus → EachOf (λ e. HasType m2 e.frame (Some e.kind)) (b t).locks
    unfolding typed_hand
    locks_same t l =
        EachOf-map (λ e. (0 < locks_on e.frame (b t).locks) × HasType m e.frame (Some e.kind)) (λ e. HasType m2 e.frame (Some e.kind)) (b t).locks
        (λ e k.
        let part = hands-part (typed_hand e.frame) (sizes_of n) b t l in
        let all = old.types e.frame in
        let some = k.0 in
        HasType-same e.frame (Some e.kind) (steady.type_same e.frame (omega arith)) k.1)
        (EachOf-both (λ e. 0 < locks_on e.frame (b t).locks) _ _ (EachOf-counted (λ e. e.frame) (b t).locks) (old.kinds.locks t l))

    pub contexts_steady : (v k g : ℕ) → v < (sizes_of n).vcpus → k < 38 → IsTrue (is_context k) → m2 (Vcpu v k) ≡ g + 1 → HasType m2 g (context_type k)
    contexts_steady v k g p q t e =
        let was : m (Vcpu v k) ≡ g + 1 = sym (steady.context_same v k t) ∙ e in
        let part = contexts-part (sizes_of n) m g v k p q t was in
        let all = old.types g in
        HasType-same g (context_type k) (steady.type_same g (omega arith)) (old.kinds.contexts v k g p q t was)

    -- what each typed reference and each lock before says of types is so after
    pub types_steady : (EachOf (λ e. HasType m2 e.frame e.kind) (b s).typed → EachOf (λ e. HasType m2 e.frame e.kind) (c s).typed) →
        (EachOf (λ e. HasType m2 e.frame (Some e.kind)) (b s).locks → EachOf (λ e. HasType m2 e.frame (Some e.kind)) (c s).locks) → TypesAgree (sizes_of n) m2 c
    types_steady typed locks =
        record {
          entries = λ f i g t l e. entries_steady g f i t l e;
          contexts = contexts_steady;
          typed = each_vcpu (λ t u. EachOf (λ e. HasType m2 e.frame e.kind) u.typed) (typed (typed_same s vcpu)) (λ t l off. typed_same t l);
          locks = each_vcpu (λ t u. EachOf (λ e. HasType m2 e.frame (Some e.kind)) u.locks) (locks (locks_same s vcpu)) (λ t l off. locks_same t l);
        }

    pub counted_steady : ((g : ℕ) → ref_count (m2 (Refs g)) + (allocated_mark (m (Refs g)) + marks (kind_at m g) + hand g (b s)) ≡ ref_count (m (Refs g)) + (allocated_mark (m2 (Refs g)) + marks (kind_at m2 g) + hand g (c s))) →
        ((g : ℕ) → type_count (kind_at m2 g) + (marks (kind_at m g) + typed_hand g (b s)) ≡ type_count (kind_at m g) + (marks (kind_at m2 g) + typed_hand g (c s))) →
        TypesAgree (sizes_of n) m2 c →
        ((d : ℕ) → d < (sizes_of n).domains → m2 (Pages d) + (pages_of n m d + times d (b s).credits) ≡ m (Pages d) + (pages_of n m2 d + times d (c s).credits)) →
        Counted
    counted_steady refs types kinds pages =
        record {
          refs = λ g.
              let e = entries-same (names g) (sizes_of n) m m2 b c steady.held_same steady.demand_same in
              let k = contexts-same (sizes_of n) m m2 g steady.context_same in
              let r = refs g in
              omega arith;
          types = λ g.
              let e = entries-same (names_typed g) (sizes_of n) m m2 b c steady.held_same steady.demand_same in
              let k = contexts-same (sizes_of n) m m2 g steady.context_same in
              let r = types g in
              omega arith;
          kinds = kinds;
          pages = pages;
        }
