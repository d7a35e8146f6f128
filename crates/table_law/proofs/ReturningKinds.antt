-- A type that was taken is given back: counted once less, or the frame is dead again.
use Rattle.std.proofs.Common.{◌≡◌, ◌≢◌, ℕ, ◌+◌, ◌-◌, ◌<◌, ◌==◌, ◌&&◌, ◌||◌, ◌⊎◌, Bool, true, false, Some, refl, sym, ap, ◌∙◌, subst, inl, inr, arith}
use Rattle.std.proofs.lemmas.Bool.{cases_eq}
use Rattle.std.proofs.lemmas.Bool.Decides.{nat_tests}
use Rattle.xp_words.specs.declared.kind.KindWord.{KindWord}
use Rattle.xp_words.specs.declared.kind.PageType.{PageType}
use Rattle.xp_words.specs.Machine.{Machine}
use Rattle.xp_board.specs.KindSteps.{raised_kind}
use Rattle.xp_board.specs.Readings.{is_dead, is_type}
use Rattle.kind_words.specs.Kinds.{live_kind, work_kind, dead_kind}
use Rattle.table_law.specs.Plain.{Plain, Share, at, with_share, with_kind, raised_share, reference_back}
use Rattle.table_law.specs.Alone.{OtherType, PlainOutcome, fine, is_counted, then_or, take_kind}
use Rattle.table_law.specs.Levels.{closed}
use Rattle.table_law.specs.Release.{is_counted_on, emptying, drop_kind}
use Rattle.table_law.specs.Undone.{IsSameButType, CountsSome}
use Rattle.table_law.proofs.Counting.{at_here, at_there}
use Rattle.table_law.proofs.Returning.{IsStuck, Like, AreStuck, GoesOn, Undoable, Refusing, Either, like_itself, share_back, share_on}

-- where one of two kind words is not dead, both are the same
same_live : (k l : KindWord) → is_dead k ≡ false → IsSameButType k l → l ≡ k
same_live k l live (inl e) = e
same_live k l live (inr both) = absurd (let d = both.0 in cc)

-- of no frame in reach any more
not_but : (but : ℕ → Bool) (p q : Plain) (g : ℕ) → (IsStuck (p.kinds g) → ⊥) → AreStuck but p → (but g ≡ true) ⊎ IsSameButType (p.kinds g) (q.kinds g) → IsSameButType (p.kinds g) (q.kinds g)
not_but but p q g free stuck (inl b) = absurd (free (stuck g b))
not_but but p q g free stuck (inr same) = same

module _ (n : Machine) (p : Plain) (g : ℕ) (t : PageType) (s : Share) (inside : g < n.frames) (was : p.shares g ≡ Some s) (some : 0 < s.count) (counts : CountsSome n p) where
  -- one kind word is set right, and the reference is given back
  set_right : (but : ℕ → Bool) (q : Plain) (k : KindWord) → ((x : ℕ) → q.shares x ≡ at g (Some (raised_share s)) p.shares x) → ((x i : ℕ) → q.cells x i ≡ p.cells x i) →
      IsSameButType (p.kinds g) k → ((x : ℕ) → x ≢ g → (but x ≡ true) ⊎ IsSameButType (p.kinds x) (q.kinds x)) → Like but p (reference_back g (with_kind g k q))
  set_right but q k shares cells same others = share_back n p g s was some but (with_kind g k q) (record { shares = shares; kinds = kinds; cells = cells })
    where
      kinds : (x : ℕ) → (but x ≡ true) ⊎ IsSameButType (p.kinds x) (at g k q.kinds x)
      kinds x =
          elim (cases_eq x g) [
            | inl e ↦ inr (subst (λ y. IsSameButType (p.kinds y) (at g k q.kinds y)) (sym e) (subst (IsSameButType (p.kinds g)) (sym (at_here g k q.kinds)) same))
            | inr off ↦ subst (λ w. (but x ≡ true) ⊎ IsSameButType (p.kinds x) w) (sym (at_there g x k q.kinds off)) (others x off)
          ]

  -- ---- counted
  module _ (live : (p.kinds g).validated ≡ true) where
    left : Plain
    left = with_kind g (raised_kind (p.kinds g)) (with_share g (raised_share s) p)

    kind_on : (x : ℕ) → x ≢ g → at g (raised_kind (p.kinds g)) p.kinds x ≡ p.kinds x
    kind_on x off = at_there g x (raised_kind (p.kinds g)) p.kinds off

    free_live : IsStuck (p.kinds g) → ⊥
    free_live is = let off = is.off in cc

    not_stuck : (x : ℕ) → IsStuck (p.kinds x) → x ≢ g
    not_stuck x is e = free_live (subst (λ y. IsStuck (p.kinds y)) e is)

    counted_on : GoesOn n p left
    unfolding left
    counted_on =
        let first = share_on n p g s was some counts in
        record {
          counts = record { types = types; refs = first.counts.refs };
          stuck = λ x is. kind_on x (not_stuck x is);
          cells = λ x i. refl;
        }
      where
        types : (x : ℕ) → x < n.frames → (at g (raised_kind (p.kinds g)) p.kinds x).validated ≡ true → 0 < (at g (raised_kind (p.kinds g)) p.kinds x).number
        types x few on =
            elim (cases_eq x g) [
              | inl e ↦ let number = ap (λ (k : KindWord). k.number) (ap (at g (raised_kind (p.kinds g)) p.kinds) e ∙ at_here g (raised_kind (p.kinds g)) p.kinds) in omega arith
              | inr off ↦
                  let same = kind_on x off in
                  let number = ap (λ (k : KindWord). k.number) same in
                  let l = counts.types x few (sym (ap (λ (k : KindWord). k.validated) same) ∙ on) in
                  omega arith
            ]

    lowered_raised : record (raised_kind (p.kinds g)) { number = (p.kinds g).number + 1 - 1 } ≡ p.kinds g
    lowered_raised = ap (λ k. record (p.kinds g) { number = k }) (let e : (p.kinds g).number + 1 - 1 ≡ (p.kinds g).number = omega arith in e)

    raised_live : is_dead (raised_kind (p.kinds g)) ≡ false
    raised_live = rw live refl

    other_kinds : (but : ℕ → Bool) (q : Plain) → Like but left q → (x : ℕ) → x ≢ g → (but x ≡ true) ⊎ IsSameButType (p.kinds x) (q.kinds x)
    unfolding left
    other_kinds but q like x off = subst (λ w. (but x ≡ true) ⊎ IsSameButType w (q.kinds x)) (kind_on x off) (like.kinds x)

    found : (but : ℕ → Bool) (q : Plain) → AreStuck but p → Like but left q → q.kinds g ≡ raised_kind (p.kinds g)
    unfolding left
    found but q stuck like =
        elim (like.kinds g) [
          | inl b ↦ absurd (free_live (stuck g b))
          | inr same ↦ same_live (raised_kind (p.kinds g)) (q.kinds g) raised_live (subst (λ w. IsSameButType w (q.kinds g)) (at_here g (raised_kind (p.kinds g)) p.kinds) same)
        ]

    drops : (empty : ℕ → Plain → Plain) (q : Plain) → q.kinds g ≡ raised_kind (p.kinds g) → drop_kind empty g t q (q.kinds g) ≡ reference_back g (with_kind g (p.kinds g) q)
    drops empty q is =
        let number = counts.types g inside live in
        let more : is_counted_on (raised_kind (p.kinds g)) ≡ true = grind (arith, nat_tests) in
        ap (drop_kind empty g t q) is ∙ rw more (ap (λ k. reference_back g (with_kind g k q)) lowered_raised)

    counted_undone : (empty : ℕ → Plain → Plain) (but : ℕ → Bool) (q : Plain) → AreStuck but p → Like but left q → Like but p (drop_kind empty g t q (q.kinds g))
    unfolding left
    counted_undone empty but q stuck like =
        subst (Like but p) (sym (drops empty q (found but q stuck like)))
        (set_right but q (p.kinds g) like.shares like.cells (inl refl) (other_kinds but q like))

  -- ---- dead, taken into work and filled
  module _ (dead : is_dead (p.kinds g) ≡ true) where
    pub begun : Plain
    begun = with_kind g (work_kind t false 0) (with_share g (raised_share s) p)

    kind_off : (x : ℕ) → x ≢ g → begun.kinds x ≡ p.kinds x
    unfolding begun
    kind_off x off = at_there g x (work_kind t false 0) p.kinds off

    free_dead : IsStuck (p.kinds g) → ⊥
    free_dead is = let u = is.undead in cc

    stuck_off : (x : ℕ) → IsStuck (p.kinds x) → x ≢ g
    stuck_off x is e = free_dead (subst (λ y. IsStuck (p.kinds y)) e is)

    pub begun_counts : CountsSome n begun
    unfolding begun
    begun_counts = record { types = types; refs = (share_on n p g s was some counts).counts.refs }
      where
        types : (x : ℕ) → x < n.frames → (at g (work_kind t false 0) p.kinds x).validated ≡ true → 0 < (at g (work_kind t false 0) p.kinds x).number
        types x few on =
            elim (cases_eq x g) [
              | inl e ↦ absurd (let off = ap (λ (k : KindWord). k.validated) (ap (at g (work_kind t false 0) p.kinds) e ∙ at_here g (work_kind t false 0) p.kinds) in cc)
              | inr off ↦
                  let same = at_there g x (work_kind t false 0) p.kinds off in
                  let number = ap (λ (k : KindWord). k.number) same in
                  let l = counts.types x few (sym (ap (λ (k : KindWord). k.validated) same) ∙ on) in
                  omega arith
            ]

    -- given back from there
    closed_like : (but : ℕ → Bool) (r : Plain) → ((x : ℕ) → r.shares x ≡ begun.shares x) → ((x i : ℕ) → r.cells x i ≡ begun.cells x i) →
        ((x : ℕ) → x ≢ g → (but x ≡ true) ⊎ IsSameButType (begun.kinds x) (r.kinds x)) → Like but p (closed g t r)
    unfolding begun kind_off
    closed_like but r shares cells others =
        set_right but r (dead_kind t false 0) shares cells (inr (dead, refl))
        (λ x off. subst (λ w. (but x ≡ true) ⊎ IsSameButType w (r.kinds x)) (kind_off x off) (others x off))

    pub refused_dead : (fill : Plain → PlainOutcome) → Refusing begun (fill begun) → Refusing p (take_kind fill g t (with_share g (raised_share s) p) (p.kinds g))
    unfolding begun closed_like
    refused_dead fill failed =
        record {
          cause = failed.cause;
          left = closed g t failed.left;
          is = rw dead (ap (λ o. then_or o (closed g t) (λ q. fine (with_kind g (live_kind t 1) q))) failed.is);
          same = closed_like (λ x. false) failed.left failed.same.shares failed.same.cells (λ x off. failed.same.kinds x);
        }

    -- or made live
    module _ (fill : Plain → PlainOutcome) (empty : ℕ → Plain → Plain) (filled : Undoable n begun (fill begun) (empty 512)) where
      live_left : Plain
      live_left = with_kind g (live_kind t 1) filled.left

      kind_left : (x : ℕ) → x ≢ g → live_left.kinds x ≡ filled.left.kinds x
      unfolding live_left
      kind_left x off = at_there g x (live_kind t 1) filled.left.kinds off

      kind_live : live_left.kinds g ≡ live_kind t 1
      unfolding live_left
      kind_live = at_here g (live_kind t 1) filled.left.kinds

      live_on : GoesOn n p live_left
      unfolding live_left kind_left kind_live begun kind_off
      live_on =
          record {
            counts = record { types = types; refs = filled.on.counts.refs };
            stuck = λ x is.
                let off = stuck_off x is in
                kind_left x off ∙ filled.on.stuck x (subst IsStuck (sym (kind_off x off)) is) ∙ kind_off x off;
            cells = filled.on.cells;
          }
        where
          types : (x : ℕ) → x < n.frames → (at g (live_kind t 1) filled.left.kinds x).validated ≡ true → 0 < (at g (live_kind t 1) filled.left.kinds x).number
          types x few on =
              elim (cases_eq x g) [
                | inl e ↦ let number = ap (λ (k : KindWord). k.number) (ap (at g (live_kind t 1) filled.left.kinds) e ∙ at_here g (live_kind t 1) filled.left.kinds) in omega arith
                | inr off ↦
                    let same = at_there g x (live_kind t 1) filled.left.kinds off in
                    let number = ap (λ (k : KindWord). k.number) same in
                    let l = filled.on.counts.types x few (sym (ap (λ (k : KindWord). k.validated) same) ∙ on) in
                    omega arith
              ]

      module _ (but : ℕ → Bool) (q : Plain) (stuck : AreStuck but p) (like : Like but live_left q) where
        found_live : q.kinds g ≡ live_kind t 1
        found_live =
            elim (like.kinds g) [
              | inl b ↦ absurd (free_dead (stuck g b))
              | inr same ↦ same_live (live_kind t 1) (q.kinds g) refl (subst (λ w. IsSameButType w (q.kinds g)) kind_live same)
            ]

        -- while it is emptied, the frame itself is left alone
        but_more : ℕ → Bool
        but_more x = but x || (x == g)

        more_stuck : AreStuck but_more begun
        unfolding but_more begun kind_off
        more_stuck x b =
            elim (cases_eq x g) [
              | inl e ↦ subst (λ y. IsStuck (at g (work_kind t false 0) p.kinds y)) (sym e) (subst IsStuck (sym (at_here g (work_kind t false 0) p.kinds)) (record { undead = refl; off = refl }))
              | inr off ↦ let was_but : but x ≡ true = grind (arith, nat_tests) in subst IsStuck (sym (kind_off x off)) (stuck x was_but)
            ]

        -- and closing
        at_work : Plain
        at_work = with_kind g (emptying (live_kind t 1)) q

        more_like : Like but_more filled.left at_work
        unfolding but_more at_work live_left kind_left
        more_like = record { shares = like.shares; kinds = kinds; cells = like.cells }
          where
            kinds : (x : ℕ) → ((but x || (x == g)) ≡ true) ⊎ IsSameButType (filled.left.kinds x) (at g (emptying (live_kind t 1)) q.kinds x)
            kinds x =
                elim (cases_eq x g) [
                  | inl e ↦ inl (grind (arith, nat_tests))
                  | inr off ↦
                      elim (like.kinds x) [
                        | inl b ↦ inl (let is = b in grind arith)
                        | inr same ↦ inr (subst (IsSameButType (filled.left.kinds x)) (sym (at_there g x (emptying (live_kind t 1)) q.kinds off)) (subst (λ w. IsSameButType w (q.kinds x)) (kind_left x off) same))
                      ]
                ]

        emptied : Like but_more begun (empty 512 at_work)
        emptied = filled.undone but_more at_work more_stuck more_like

        but_others : (x : ℕ) → x ≢ g → (but x ≡ true) ⊎ IsSameButType (begun.kinds x) ((empty 512 at_work).kinds x)
        unfolding but_more emptied
        but_others x off =
            elim (emptied.kinds x) [
              | inl b ↦ inl (let is = b in grind (arith, nat_tests))
              | inr same ↦ inr same
            ]

        live_undone : Like but p (drop_kind empty g t q (q.kinds g))
        unfolding emptied at_work
        live_undone =
            subst (Like but p) (sym (ap (drop_kind empty g t q) found_live))
            (closed_like but (empty 512 at_work) emptied.shares emptied.cells but_others)

      pub live_dead : Undoable n p (take_kind fill g t (with_share g (raised_share s) p) (p.kinds g)) (λ q. drop_kind empty g t q (q.kinds g))
      unfolding begun live_left
      live_dead =
          record {
            left = live_left;
            is = rw dead (ap (λ o. then_or o (closed g t) (λ q. fine (with_kind g (live_kind t 1) q))) filled.is);
            on = live_on;
            undone = live_undone;
          }

  -- ---- each way
  abbrev pub Kinds : (Plain → PlainOutcome) → (ℕ → Plain → Plain) → Type 0
  Kinds fill empty = Either n p (take_kind fill g t (with_share g (raised_share s) p) (p.kinds g)) (λ q. drop_kind empty g t q (q.kinds g))

  by_fill : (dead : is_dead (p.kinds g) ≡ true) (fill : Plain → PlainOutcome) (empty : ℕ → Plain → Plain) → Either n (begun dead) (fill (begun dead)) (empty 512) → Kinds fill empty
  by_fill dead fill empty (inl filled) = inl (live_dead dead fill empty filled)
  by_fill dead fill empty (inr failed) = inr (refused_dead dead fill failed)

  by_type : (fill : Plain → PlainOutcome) (empty : ℕ → Plain → Plain) → is_dead (p.kinds g) ≡ false → (b : Bool) → is_counted (p.kinds g) && is_type (p.kinds g).kind t ≡ b → Kinds fill empty
  unfolding left
  by_type fill empty undead true on =
      let live : (p.kinds g).validated ≡ true = grind arith in
      inl (record { left = left live; is = rw (undead, on) refl; on = counted_on live; undone = counted_undone live empty })
  by_type fill empty undead false off =
      inr
      (record {
        cause = OtherType g t (p.kinds g);
        left = reference_back g (with_share g (raised_share s) p);
        is = rw (undead, off) refl;
        same = share_back n p g s was some (λ x. false) (with_share g (raised_share s) p) (like_itself (λ x. false) (with_share g (raised_share s) p));
      })

  by_form : (fill : Plain → PlainOutcome) (empty : ℕ → Plain → Plain) → ((dead : is_dead (p.kinds g) ≡ true) → Either n (begun dead) (fill (begun dead)) (empty 512)) → (b : Bool) → is_dead (p.kinds g) ≡ b → Kinds fill empty
  by_form fill empty fills true dead = by_fill dead fill empty (fills dead)
  by_form fill empty fills false undead = by_type fill empty undead (is_counted (p.kinds g) && is_type (p.kinds g).kind t) refl

  pub kinds_go : (fill : Plain → PlainOutcome) (empty : ℕ → Plain → Plain) → ((dead : is_dead (p.kinds g) ≡ true) → Either n (begun dead) (fill (begun dead)) (empty 512)) → Kinds fill empty
  kinds_go fill empty fills = by_form fill empty fills (is_dead (p.kinds g)) refl
