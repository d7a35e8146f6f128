-- Entries that were met are given back, the highest first; and so whole tables, level by level.
use Rattle.std.proofs.Common.{◌≡◌, ℕ, zero, suc, ◌-◌, ◌≤◌, ◌⊎◌, Bool, false, Some, None, refl, sym, ap, ◌∙◌, subst, inl, inr, arith}
use Rattle.xp_words.specs.declared.kind.PageType.TheVariants as kinds
use Rattle.xp_words.specs.declared.entry.Demand.{Demand}
use Rattle.xp_words.specs.declared.entry.Demand.TheVariants.{Nothing, Bad, Read, Typed}
use Rattle.xp_words.specs.Entries.{demand_at}
use Rattle.xp_words.specs.Machine.{Machine}
use Rattle.partial_state.specs.Levels.{level_type}
use Rattle.table_law.specs.Plain.{Plain, Share, with_share, raised_share, reference_back}
use Rattle.table_law.specs.Alone.{Cause, Reserved, PlainOutcome, fine, refused, then_by, then_or, take_reference, meet, meet_last, take_at, alone}
use Rattle.table_law.specs.Levels.{entry_of}
use Rattle.table_law.specs.Release.{drop_demand, drop_first, let_go}
use Rattle.table_law.specs.Undone.{CountsSome, IsSameButTypes}
use Rattle.table_law.proofs.Returning.{IsStuck, Like, AreStuck, GoesOn, Undoable, Refusing, Either, Lent, like_itself, share_back, share_on, refers}
use Rattle.table_law.proofs.ReturningKinds.{begun, begun_counts, kinds_go}

-- one behind the other
goes_both : (n : Machine) (p q r : Plain) → GoesOn n p q → GoesOn n q r → GoesOn n p r
goes_both n p q r one two =
    record {
      counts = two.counts;
      stuck = λ x is. two.stuck x (subst IsStuck (sym (one.stuck x is)) is) ∙ one.stuck x is;
      cells = λ g i. two.cells g i ∙ one.cells g i;
    }

still_stuck : (n : Machine) (but : ℕ → Bool) (p q : Plain) → GoesOn n p q → AreStuck but p → AreStuck but q
still_stuck n but p q on stuck x b = subst IsStuck (sym (on.stuck x (stuck x b))) (stuck x b)

abbrev pub Returns : Machine → ℕ → ℕ → Type 0
Returns n owner l = (g : ℕ) (p : Plain) → CountsSome n p → Either n p (alone n owner l g p) (let_go l g)

-- ---- the entries of frame f, a table of level l + 1
module _ (n : Machine) (owner l f : ℕ) (returns : Returns n owner l) where
  by_reference : (g : ℕ) (p : Plain) → CountsSome n p → Lent n p g (take_reference n owner g p) ⊎ Refusing p (take_reference n owner g p) →
      Either n p (take_reference n owner g p) (reference_back g)
  by_reference g p counts (inl lent) =
      inl
      (record {
        left = with_share g (raised_share lent.share) p;
        is = lent.is;
        on = share_on n p g lent.share lent.was lent.some counts;
        undone = λ but q stuck like. share_back n p g lent.share lent.was lent.some but q like;
      })
  by_reference g p counts (inr refusing) = inr refusing

  met : (i : ℕ) (p : Plain) (a : Demand) → CountsSome n p → Either n p (meet n owner (take_at l n owner) f i p a) (λ q. drop_demand (let_go l) q a)
  met i p Nothing counts =
      inl (record { left = p; is = refl; on = record { counts = counts; stuck = λ x is. refl; cells = λ g i. refl }; undone = λ but q stuck like. like })
  met i p Bad counts = inr (record { cause = Reserved f i (p.cells f i); left = p; is = refl; same = like_itself (λ x. false) p })
  met i p (Read g) counts = by_reference g p counts (refers n owner g p counts)
  met i p (Typed g t) counts = returns g p counts

  -- the last k of them were met from p on: what is like q comes to be like p
  record Emptied (but : ℕ → Bool) (k : ℕ) (p q : Plain) : Type 0 where
    pub to : Plain
    pub is : drop_first (let_go l) (level_type (suc l)) f 512 q ≡ drop_first (let_go l) (level_type (suc l)) f (512 - k) to
    pub like : Like but p to

  record LoopDone (k : ℕ) (p : Plain) (o : PlainOutcome) : Type 0 where
    pub left : Plain
    pub is : o ≡ fine left
    pub on : GoesOn n p left
    pub undone : (but : ℕ → Bool) (q : Plain) → AreStuck but p → Like but left q → Emptied but k p q

  record LoopRefused (k : ℕ) (p : Plain) (o : PlainOutcome) : Type 0 where
    pub cause : Cause
    pub to : Plain
    pub is : o ≡ refused cause (drop_first (let_go l) (level_type (suc l)) f (512 - k) to)
    pub like : Like (λ x. false) p to

  abbrev Loops : ℕ → Plain → PlainOutcome → Type 0
  Loops k p o = LoopDone k p o ⊎ LoopRefused k p o

  -- the entry before is given back too
  same_entry : (but : ℕ → Bool) (p to : Plain) (i : ℕ) → Like but p to → entry_of to (level_type (suc l)) f i ≡ entry_of p (level_type (suc l)) f i
  same_entry but p to i like = ap (demand_at (level_type (suc l)) i) (like.cells f i)

  one_back : (k : ℕ) (q : Plain) (a : Demand) → suc k ≤ 512 → entry_of q (level_type (suc l)) f (512 - suc k) ≡ a →
      drop_first (let_go l) (level_type (suc l)) f (512 - k) q ≡ drop_first (let_go l) (level_type (suc l)) f (512 - suc k) (drop_demand (let_go l) q a)
  unfolding drop_first
  one_back k q a few asks = ap (λ j. drop_first (let_go l) (level_type (suc l)) f j q) (let e : 512 - k ≡ suc (512 - suc k) = omega arith in e) ∙ next (512 - suc k) asks
    where
      next : (i : ℕ) → entry_of q (level_type (suc l)) f i ≡ a → drop_first (let_go l) (level_type (suc l)) f (suc i) q ≡ drop_first (let_go l) (level_type (suc l)) f i (drop_demand (let_go l) q a)
      next i is = ap (λ d. drop_first (let_go l) (level_type (suc l)) f i (drop_demand (let_go l) q d)) is

  -- an entry is met, and then the others
  module _ (k : ℕ) (p : Plain) (few : suc k ≤ 512) where
    asked : Demand
    asked = entry_of p (level_type (suc l)) f (512 - suc k)

    first : PlainOutcome
    first = meet n owner (take_at l n owner) f (512 - suc k) p (entry_of p (level_type (suc l)) f (512 - suc k))

    others : Plain → PlainOutcome
    others = meet_last n owner (take_at l n owner) (let_go l) (level_type (suc l)) f k

    back : Plain → Plain
    back = drop_first (let_go l) (level_type (suc l)) f (512 - suc k)

    module _ (one : Undoable n p first (λ q. drop_demand (let_go l) q asked)) where
      on_from : then_or first back others ≡ others one.left
      on_from = ap (λ o. then_or o back others) one.is

      -- what comes to be like the frames behind the entry comes to be like those before it
      step_back : (but : ℕ → Bool) (to : Plain) → AreStuck but p → Like but one.left to →
          drop_first (let_go l) (level_type (suc l)) f (512 - k) to ≡ drop_first (let_go l) (level_type (suc l)) f (512 - suc k) (drop_demand (let_go l) to asked)
      unfolding asked
      step_back but to stuck like =
          one_back k to asked few
          (same_entry but one.left to (512 - suc k) like ∙ ap (demand_at (level_type (suc l)) (512 - suc k)) (one.on.cells f (512 - suc k)))

      then_others : Loops k one.left (others one.left) → Loops (suc k) p (then_or first back others)
      then_others (inl done) =
          inl
          (record {
            left = done.left;
            is = on_from ∙ done.is;
            on = goes_both n p one.left done.left one.on done.on;
            undone = λ but q stuck like.
                let inner = done.undone but q (still_stuck n but p one.left one.on stuck) like in
                record {
                  to = drop_demand (let_go l) inner.to asked;
                  is = inner.is ∙ step_back but inner.to stuck inner.like;
                  like = one.undone but inner.to stuck inner.like;
                };
          })
      then_others (inr stopped) =
          let none : AreStuck (λ x. false) p = λ x b. absurd (cc) in
          inr
          (record {
            cause = stopped.cause;
            to = drop_demand (let_go l) stopped.to asked;
            is = on_from ∙ stopped.is ∙ ap (refused stopped.cause) (step_back (λ x. false) stopped.to none stopped.like);
            like = one.undone (λ x. false) stopped.to none stopped.like;
          })

    with_others : Either n p first (λ q. drop_demand (let_go l) q asked) → ((q : Plain) → CountsSome n q → Loops k q (others q)) → Loops (suc k) p (then_or first back others)
    unfolding back
    with_others (inl one) loops = then_others one (loops one.left one.on.counts)
    with_others (inr stopped) loops =
        inr (record { cause = stopped.cause; to = stopped.left; is = ap (λ o. then_or o back others) stopped.is; like = stopped.same })

  loop_goes : (k : ℕ) (p : Plain) → k ≤ 512 → CountsSome n p → Loops k p (meet_last n owner (take_at l n owner) (let_go l) (level_type (suc l)) f k p)
  unfolding meet_last first others back asked
  loop_goes zero p few counts =
      inl
      (record {
        left = p;
        is = refl;
        on = record { counts = counts; stuck = λ x is. refl; cells = λ g i. refl };
        undone = λ but q stuck like. record { to = q; is = refl; like = like };
      })
  loop_goes (suc k) p few counts =
      with_others k p few (met (512 - suc k) p (entry_of p (level_type (suc l)) f (512 - suc k)) counts) (λ q c. loop_goes k q (omega arith) c)

  -- all entries
  whole : (p : Plain) → Loops 512 p (meet_last n owner (take_at l n owner) (let_go l) (level_type (suc l)) f 512 p) →
      Either n p (meet_last n owner (take_at l n owner) (let_go l) (level_type (suc l)) f 512 p) (drop_first (let_go l) (level_type (suc l)) f 512)
  unfolding drop_first
  whole p (inl done) =
      inl
      (record {
        left = done.left;
        is = done.is;
        on = done.on;
        undone = λ but q stuck like. let inner = done.undone but q stuck like in subst (Like but p) (sym inner.is) inner.like;
      })
  whole p (inr stopped) = inr (record { cause = stopped.cause; left = stopped.to; is = stopped.is; same = stopped.like })

  pub table_goes : (p : Plain) → CountsSome n p → Either n p (meet_last n owner (take_at l n owner) (let_go l) (level_type (suc l)) f 512 p) (drop_first (let_go l) (level_type (suc l)) f 512)
  table_goes p counts = whole p (loop_goes 512 p (omega arith) counts)

-- ---- a frame by level
behind : (n : Machine) (owner l g : ℕ) (p : Plain) (s : Share) (back : Plain → Plain) → take_reference n owner g p ≡ fine (with_share g (raised_share s) p) →
    Either n p (take_at l n owner g (with_share g (raised_share s) p)) back → Either n p (alone n owner l g p) back
behind n owner l g p s back is (inl done) =
    inl (record { left = done.left; is = ap (λ o. then_by o (take_at l n owner g)) is ∙ done.is; on = done.on; undone = done.undone })
behind n owner l g p s back is (inr stopped) =
    inr (record { cause = stopped.cause; left = stopped.left; is = ap (λ o. then_by o (take_at l n owner g)) is ∙ stopped.is; same = stopped.same })

not_lent : (n : Machine) (owner l g : ℕ) (p : Plain) (back : Plain → Plain) → Refusing p (take_reference n owner g p) → Either n p (alone n owner l g p) back
not_lent n owner l g p back stopped =
    inr (record { cause = stopped.cause; left = stopped.left; is = ap (λ o. then_by o (take_at l n owner g)) stopped.is; same = stopped.same })

lowest : (n : Machine) (owner g : ℕ) (p : Plain) → CountsSome n p → Lent n p g (take_reference n owner g p) → Either n p (alone n owner 0 g p) (let_go 0 g)
unfolding take_at let_go
lowest n owner g p counts lent =
    behind n owner 0 g p lent.share (let_go 0 g) lent.is
    (kinds_go n p g kinds.Writable lent.share lent.inside lent.was lent.some counts fine (λ k q. q)
    (λ dead.
    let start = begun n p g kinds.Writable lent.share lent.inside lent.was lent.some counts dead in
    inl
    (record {
      left = start;
      is = refl;
      on = record { counts = begun_counts n p g kinds.Writable lent.share lent.inside lent.was lent.some counts dead; stuck = λ x is. refl; cells = λ x i. refl };
      undone = λ but q stuck like. like;
    })))

higher : (n : Machine) (owner l g : ℕ) (p : Plain) → Returns n owner l → CountsSome n p → Lent n p g (take_reference n owner g p) → Either n p (alone n owner (suc l) g p) (let_go (suc l) g)
unfolding take_at let_go
higher n owner l g p returns counts lent =
    behind n owner (suc l) g p lent.share (let_go (suc l) g) lent.is
    (kinds_go n p g (level_type (suc l)) lent.share lent.inside lent.was lent.some counts
    (meet_last n owner (take_at l n owner) (let_go l) (level_type (suc l)) g 512) (drop_first (let_go l) (level_type (suc l)) g)
    (λ dead.
    table_goes n owner l g returns (begun n p g (level_type (suc l)) lent.share lent.inside lent.was lent.some counts dead)
    (begun_counts n p g (level_type (suc l)) lent.share lent.inside lent.was lent.some counts dead)))

by_lent : (n : Machine) (owner l g : ℕ) (p : Plain) (back : Plain → Plain) → (Lent n p g (take_reference n owner g p) → Either n p (alone n owner l g p) back) →
    Lent n p g (take_reference n owner g p) ⊎ Refusing p (take_reference n owner g p) → Either n p (alone n owner l g p) back
by_lent n owner l g p back go (inl lent) = go lent
by_lent n owner l g p back go (inr stopped) = not_lent n owner l g p back stopped

pub all_return : (n : Machine) (owner l : ℕ) → Returns n owner l
all_return n owner zero g p counts = by_lent n owner 0 g p (let_go 0 g) (lowest n owner g p counts) (refers n owner g p counts)
all_return n owner (suc l) g p counts =
    by_lent n owner (suc l) g p (let_go (suc l) g) (higher n owner l g p (all_return n owner l) counts) (refers n owner g p counts)

-- ---- so all is as before, but for types
pub same_types : (p q : Plain) → Like (λ x. false) p q → IsSameButTypes p q
same_types p q like = record { shares = like.shares; kinds = λ g. elim (like.kinds g) [ inl b ↦ absurd (cc) | inr same ↦ same ]; cells = like.cells }

refused_by : (n : Machine) (p : Plain) (o : PlainOutcome) (back : Plain → Plain) (c : Cause) → Either n p o back → o.refusal ≡ Some c → IsSameButTypes p o.left
refused_by n p o back c (inl done) is = absurd (let none = sym (ap (λ (x : PlainOutcome). x.refusal) done.is) ∙ is in cc)
refused_by n p o back c (inr stopped) is = subst (λ (x : PlainOutcome). IsSameButTypes p x.left) (sym stopped.is) (same_types p stopped.left stopped.same)

undone_by : (n : Machine) (p : Plain) (o : PlainOutcome) (back : Plain → Plain) → Either n p o back → o.refusal ≡ None → IsSameButTypes p (back o.left)
undone_by n p o back (inl done) is =
    subst (λ (x : PlainOutcome). IsSameButTypes p (back x.left)) (sym done.is) (same_types p (back done.left) (done.undone (λ x. false) done.left (λ x b. absurd (cc)) (like_itself (λ x. false) done.left)))
undone_by n p o back (inr stopped) is = absurd (let some = sym (ap (λ (x : PlainOutcome). x.refusal) stopped.is) ∙ is in cc)

pub refused_same : (n : Machine) (owner l f : ℕ) (p : Plain) (c : Cause) → CountsSome n p → (alone n owner l f p).refusal ≡ Some c → IsSameButTypes p (alone n owner l f p).left
refused_same n owner l f p c counts is = refused_by n p (alone n owner l f p) (let_go l f) c (all_return n owner l f p counts) is

pub released_same : (n : Machine) (owner l f : ℕ) (p : Plain) → CountsSome n p → (alone n owner l f p).refusal ≡ None → IsSameButTypes p (let_go l f (alone n owner l f p).left)
released_same n owner l f p counts is = undone_by n p (alone n owner l f p) (let_go l f) (all_return n owner l f p counts) is
