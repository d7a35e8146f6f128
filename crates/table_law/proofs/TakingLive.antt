-- The type of a live frame to which a reference was taken: it is counted, or it is another one.
use Rattle.std.proofs.Common.{◌≡◌, ◌≢◌, ℕ, ◌<◌, ◌≤◌, ◌&&◌, Bool, true, false, Option, Some, None, refl, sym, ap, ◌∙◌, subst, inl, inr, arith}
use Rattle.std.proofs.lemmas.Bool.{cases_Bool, cases_eq}
use Rattle.std.proofs.lemmas.Bool.Decides.{nat_tests}
use Rattle.xp_words.specs.declared.kind.KindWord.{KindWord}
use Rattle.xp_words.specs.declared.kind.PageType.{PageType}
use Rattle.xp_board.specs.KindSteps.{raised_kind}
use Rattle.xp_board.proofs.Returned.{same_type}
use Rattle.xp_board.specs.Readings.{is_dead, is_type}
use Rattle.xp_board.proofs.EntryWords.{type_same}
use Rattle.partial_state.specs.Levels.{level_type}
use Rattle.partial_state.proofs.LevelFacts.{level_type-apart}
use Rattle.table_law.specs.Plain.{Plain, at, with_kind, reference_back}
use Rattle.table_law.specs.Alone.{OtherType, PlainOutcome, is_counted, take_kind}
use Rattle.table_law.specs.Lawful.{PlainTree}
use Rattle.table_law.proofs.Doing.{Case, Doing, Doings, IsLawful, IsSame, IsTaken, Above, HasType, Goes}
use Rattle.table_law.proofs.Counting.{at_here, at_there}
use Rattle.table_law.proofs.Growing.{counted_as}
use Rattle.table_law.proofs.Meeting.{Took}

-- ---- counted or not
-- where a live frame has type counts, one that has none is not live
uncounted : (k : KindWord) → (k.validated ≡ true → 0 < k.number) → is_counted k ≡ false → k.validated ≡ false
uncounted k some off =
    elim (cases_Bool k.validated) [
      | inl on ↦ absurd (let count = some on in grind (arith, nat_tests))
      | inr out ↦ out
    ]

has_counts : (k : KindWord) (t : PageType) → k.validated ≡ true → 0 < k.number → is_type k.kind t ≡ true → is_counted k && is_type k.kind t ≡ true
has_counts k t live some typed = grind (arith, nat_tests)

module _ (c : Case) (l : ℕ) (low : l ≤ 4) (g : ℕ) (p : Plain) (d : Doing) (does : Doings c p d) (above : Above p d l)
    (tree : PlainTree c.before c.top c.kind g (level_type l)) where
  module _ (live : is_dead (p.kinds g) ≡ false) where
    kind_now : at g (raised_kind (p.kinds g)) p.kinds g ≡ raised_kind (p.kinds g)
    kind_now = at_here g (raised_kind (p.kinds g)) p.kinds

    kind_other : (x : ℕ) → x ≢ g → at g (raised_kind (p.kinds g)) p.kinds x ≡ p.kinds x
    kind_other x off = at_there g x (raised_kind (p.kinds g)) p.kinds off

    counted_same : (x : ℕ) → d.taken x ≡ None → IsSame (c.before.kinds x) (at g (raised_kind (p.kinds g)) p.kinds x)
    counted_same x none =
        elim (cases_eq x g) [
          | inl e ↦
              subst (λ y. IsSame (c.before.kinds y) (at g (raised_kind (p.kinds g)) p.kinds y)) (sym e)
              (subst (λ k. IsSame (c.before.kinds g) k) (sym kind_now) (let s = does.same g (ap d.taken (sym e) ∙ none) in record { kind = s.kind; live = s.live; dead = s.dead; more = (let up = s.more in omega arith) }))
          | inr off ↦ subst (λ k. IsSame (c.before.kinds x) k) (sym (kind_other x off)) (does.same x none)
        ]

    counted_took : (x k : ℕ) → d.taken x ≡ Some k → IsTaken c (with_kind g (raised_kind (p.kinds g)) p) x k
    counted_took x k some =
        let t = does.took x k some in
        elim (cases_eq x g) [
          | inl e ↦
              let is = ap (at g (raised_kind (p.kinds g)) p.kinds) e ∙ kind_now ∙ sym (ap (λ y. raised_kind (p.kinds y)) e) in
              record { dead = t.dead; tree = t.tree; low = t.low; inside = t.inside; kind = ap (λ (y : KindWord). y.kind) is ∙ t.kind; now = ap is_dead is ∙ t.now; counted = λ live. (let number = ap (λ (y : KindWord). y.number) is in omega arith) }
          | inr off ↦
              let is = kind_other x off in
              record { dead = t.dead; tree = t.tree; low = t.low; inside = t.inside; kind = ap (λ (y : KindWord). y.kind) is ∙ t.kind; now = ap is_dead is ∙ t.now; counted = counted_as (p.kinds x) (at g (raised_kind (p.kinds g)) p.kinds x) is t.counted }
        ]

    counted_live : (x : ℕ) → (at g (raised_kind (p.kinds g)) p.kinds x).validated ≡ (p.kinds x).validated
    counted_live x =
        elim (cases_eq x g) [
          | inl e ↦ ap (λ y. (at g (raised_kind (p.kinds g)) p.kinds y).validated) e ∙ ap (λ (y : KindWord). y.validated) kind_now ∙ sym (ap (λ y. (p.kinds y).validated) e)
          | inr off ↦ ap (λ (y : KindWord). y.validated) (kind_other x off)
        ]

    has_by : (o : Option ℕ) → d.taken g ≡ o → (p.kinds g).kind ≡ level_type l → HasType c d g (level_type l)
    has_by (Some k) some is = inl (k, some, sym (does.took g k some).kind ∙ is)
    has_by None none is = let s = does.same g none in inr (sym s.dead ∙ live, sym s.kind ∙ is)

    counted_is : is_counted (p.kinds g) && is_type (p.kinds g).kind (level_type l) ≡ true → (p.kinds g).kind ≡ level_type l
    counted_is on = type_same (p.kinds g).kind (level_type l) (grind arith)

    counted : is_counted (p.kinds g) && is_type (p.kinds g).kind (level_type l) ≡ true → Took c p d g l (with_kind g (raised_kind (p.kinds g)) p) d
    counted on =
        record {
          doings = record { cells = does.cells; shares = does.shares; room = does.room; same = counted_same; took = counted_took; most = does.most };
          grows = record { keeps = λ x k some. some; still = λ x k some off. refl; settled = λ x k some off. (some, sym (counted_live x) ∙ off); closed = λ x k none some. absurd (cc) };
          has = has_by (d.taken g) refl (counted_is on);
        }

    -- of another type, or in work
    other_by : (o : Option ℕ) → d.taken g ≡ o → is_counted (p.kinds g) && is_type (p.kinds g).kind (level_type l) ≡ false → IsLawful c → ⊥
    other_by (Some k) some off law =
        let t = does.took g k some in
        let same : k ≡ l = level_type-apart k l t.low low (law.one_type g (level_type k) (level_type l) t.tree tree) in
        let is : (p.kinds g).kind ≡ level_type l = t.kind ∙ ap level_type same in
        let typed : is_type (p.kinds g).kind (level_type l) ≡ true = ap (λ y. is_type y (level_type l)) is ∙ same_type (level_type l) in
        let out : is_counted (p.kinds g) ≡ false = grind arith in
        let work = uncounted (p.kinds g) t.counted out in
        let up = above g k some work in
        omega arith
    other_by None none off law =
        let s = does.same g none in
        elim (law.right_type g (level_type l) tree) [
          | inl dead ↦ absurd (let undead = sym s.dead ∙ live in cc)
          | inr is ↦
              let typed : is_type (p.kinds g).kind (level_type l) ≡ true = ap (λ y. is_type y (level_type l)) (s.kind ∙ is.kind) ∙ same_type (level_type l) in
              let valid : (p.kinds g).validated ≡ true = s.live ∙ is.live in
              let few = is.counted in
              let up = s.more in
              let some : 0 < (p.kinds g).number = omega arith in
              let all : is_counted (p.kinds g) && is_type (p.kinds g).kind (level_type l) ≡ true = has_counts (p.kinds g) (level_type l) valid some typed in
              absurd (let no = off in cc)
        ]

    pub by_type : (fill : Plain → PlainOutcome) → (b : Bool) → is_counted (p.kinds g) && is_type (p.kinds g).kind (level_type l) ≡ b → Goes c (take_kind fill g (level_type l) p (p.kinds g)) (Took c p d g l)
    by_type fill true on = inl (record { left = with_kind g (raised_kind (p.kinds g)) p; doing = d; is = rw (live, on) refl; holds = counted on })
    by_type fill false off =
        inr (record { cause = OtherType g (level_type l) (p.kinds g); left = reference_back g p; is = rw (live, off) refl; why = other_by (d.taken g) refl off })
