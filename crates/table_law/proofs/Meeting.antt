-- The entries of a table that was taken, one after the other.
use Rattle.std.proofs.Common.{◌≡◌, ◌≢◌, ℕ, zero, suc, ◌+◌, ◌-◌, ◌<◌, ◌≤◌, ◌⊎◌, Some, refl, sym, ap, ◌∙◌, subst, inl, inr, arith}
use Rattle.std.proofs.lemmas.Bool.{cases_eq}
use Rattle.xp_words.specs.declared.kind.PageType.{PageType}
use Rattle.xp_words.specs.declared.entry.Demand.{Demand}
use Rattle.xp_words.specs.declared.entry.Demand.TheVariants.{Nothing, Bad, Read, Typed}
use Rattle.xp_words.specs.Entries.{demand_at}
use Rattle.xp_board.specs.Lists.{one_at}
use Rattle.xp_board.specs.Recorded.{names}
use Rattle.partial_state.specs.Levels.{level_type}
use Rattle.partial_state.proofs.LevelFacts.{level_type-table}
use Rattle.table_law.specs.Plain.{Plain, Share}
use Rattle.table_law.specs.Alone.{Reserved, PlainOutcome, then_by, then_or, take_reference, meet, meet_last, take_at}
use Rattle.table_law.specs.Release.{let_go, drop_first}
use Rattle.table_law.specs.Levels.{entry_of}
use Rattle.table_law.specs.Lawful.{PlainTree, IsPlainNode, IsPlainOwned, below}
use Rattle.table_law.proofs.Doing.{Case, Doing, Doings, IsLawful, Above, IsMet, HasType, Grows, total, more, Done, Failed, Goes}
use Rattle.table_law.proofs.Counting.{met_more, at_here, total_met, total_most, asks_at}
use Rattle.table_law.proofs.Growing.{grows_none, grows_more, grows_less, above_more, met_stays, doings_met, grows_met, most_more}
use Rattle.table_law.proofs.Referring.{Referred, refer_goes}

-- ---- a frame is taken
pub record Took (c : Case) (p : Plain) (d : Doing) (g l : ℕ) (q : Plain) (e : Doing) : Type 0 where
  pub doings : Doings c q e
  pub grows : Grows c p d q e (λ x. ⊥)
  pub has : HasType c e g (level_type l)

abbrev pub Take : Case → ℕ → Type 0
Take c l =
    (g : ℕ) (p : Plain) (d : Doing) → Doings c p d → Above p d l → IsPlainOwned c.machine c.owner c.before g → PlainTree c.before c.top c.kind g (level_type l) →
    Goes c (take_at l c.machine c.owner g p) (Took c p d g l)

-- ---- one entry, or all that are left
pub record Entered (c : Case) (p : Plain) (d : Doing) (x : ℕ) (a : Demand) (q : Plain) (e : Doing) : Type 0 where
  pub doings : Doings c q e
  pub grows : Grows c p d q e (λ y. y ≡ x)
  pub step : e.met x ≡ suc (d.met x)
  pub met : IsMet c e a

pub record Looped (c : Case) (p : Plain) (d : Doing) (x l : ℕ) (q : Plain) (e : Doing) : Type 0 where
  pub doings : Doings c q e
  pub grows : Grows c p d q e (λ y. y ≡ x)
  pub full : e.met x ≡ 512
  pub met : (i : ℕ) → d.met x ≤ i → i < 512 → IsMet c e (entry_of c.before (level_type (suc l)) x i)

module _ (c : Case) (l : ℕ) (low : l ≤ 3) (take : Take c l) (x : ℕ) where
  pub Enter : Plain → Doing → Demand → Type 0
  Enter p d a = Goes c (meet c.machine c.owner (take_at l c.machine c.owner) x (d.met x) p a) (Entered c p d x a)

  module _ (p : Plain) (d : Doing) (does : Doings c p d) (above : Above p d l) (took : d.taken x ≡ Some (suc l)) (inside : d.met x < 512) where
    is_node : IsPlainNode c.before c.top c.kind x (level_type (suc l))
    is_node = let t = does.took x (suc l) took in record { tree = t.tree; dead = t.dead; table = level_type-table (suc l) (omega arith) }

    -- the entry names frame g
    module _ (a : Demand) (asks : entry_of c.before (level_type (suc l)) x (d.met x) ≡ a) where
      sums : (h : ℕ) → total c (met_more x d) h ≡ total c d h + names h a
      sums h = total_met c d x l h (does.took x (suc l) took).inside took ∙ ap (λ b. total c d h + names h b) asks

      bound : (g : ℕ) (s : Share) → g < c.machine.frames → c.before.shares g ≡ Some s → IsLawful c → s.count + total c (met_more x d) g ≤ c.machine.limit
      bound g s real was law = total_most c p (met_more x d) does.took (most_more c p d x (suc l) does took inside) law g s real was

      goes_ref : (g : ℕ) → ((h : ℕ) → names h a ≡ one_at h g) → (IsLawful c → IsPlainOwned c.machine c.owner c.before g) →
          Referred c p g (total c (met_more x d)) (take_reference c.machine c.owner g p) ⊎ Failed c (take_reference c.machine c.owner g p)
      goes_ref g named owned =
          refer_goes c p g (total c d) (total c (met_more x d)) does.shares (λ h. sums h ∙ ap (λ k. total c d h + k) (named h)) does.room owned (bound g)

    still_above : (q : Plain) → q.kinds ≡ p.kinds → Above q (met_more x d) l
    still_above q same y k some off = above y k some (sym (ap (λ f. (f y).validated) same) ∙ off)

    -- behind the reference the type is taken
    typed_from : (g : ℕ) (t : PageType) → t ≡ level_type l → entry_of c.before (level_type (suc l)) x (d.met x) ≡ Typed g t →
        (r : Referred c p g (total c (met_more x d)) (take_reference c.machine c.owner g p)) → Goes c (take_at l c.machine c.owner g r.left) (Took c r.left (met_more x d) g l) → Enter p d (Typed g t)
    unfolding Enter
    typed_from g t is asks r (inl done) =
        let to = ap (λ o. then_by o (take_at l c.machine c.owner g)) r.is in
        let some : d.taken x ≡ Some (suc l) = took in
        let first = grows_met c p d x (suc l) does took inside r.left r.kinds r.cells r.shares r.room in
        inl
        (record {
          left = done.left;
          doing = done.doing;
          is = to ∙ done.is;
          holds = record {
            doings = done.holds.doings;
            grows = grows_more c p d r.left (met_more x d) done.left done.doing (λ y. y ≡ x) (λ y e none. let n = sym (ap d.taken e) ∙ none in absurd (cc)) first (grows_less c r.left (met_more x d) done.left done.doing (λ y. y ≡ x) done.holds.grows);
            step = done.holds.grows.still x (suc l) took (λ n. n) ∙ at_here x (suc (d.met x)) d.met;
            met = (r.owned, subst (λ w. HasType c done.doing g w) (sym is) done.holds.has);
          };
        })
    typed_from g t is asks r (inr failed) =
        inr (record { cause = failed.cause; left = failed.left; is = ap (λ o. then_by o (take_at l c.machine c.owner g)) r.is ∙ failed.is; why = failed.why })

    typed_by : (g : ℕ) (t : PageType) → t ≡ level_type l → entry_of c.before (level_type (suc l)) x (d.met x) ≡ Typed g t →
        Referred c p g (total c (met_more x d)) (take_reference c.machine c.owner g p) ⊎ Failed c (take_reference c.machine c.owner g p) → Enter p d (Typed g t)
    unfolding Enter
    typed_by g t is asks (inl r) =
        typed_from g t is asks r
        (take g r.left (met_more x d) (doings_met c p d x (suc l) does took inside r.left r.kinds r.cells r.shares r.room) (still_above r.left r.kinds) r.owned
        (subst (λ w. PlainTree c.before c.top c.kind g w) is (let n = is_node in below x (d.met x) g (level_type (suc l)) t n.tree n.dead n.table inside asks)))
    typed_by g t is asks (inr failed) =
        inr (record { cause = failed.cause; left = failed.left; is = ap (λ o. then_by o (take_at l c.machine c.owner g)) failed.is; why = failed.why })

    read_by : (g : ℕ) → Referred c p g (total c (met_more x d)) (take_reference c.machine c.owner g p) ⊎ Failed c (take_reference c.machine c.owner g p) → Enter p d (Read g)
    unfolding Enter
    read_by g (inl r) =
        inl
        (record {
          left = r.left;
          doing = met_more x d;
          is = r.is;
          holds = record {
            doings = doings_met c p d x (suc l) does took inside r.left r.kinds r.cells r.shares r.room;
            grows = grows_met c p d x (suc l) does took inside r.left r.kinds r.cells r.shares r.room;
            step = at_here x (suc (d.met x)) d.met;
            met = r.owned;
          };
        })
    read_by g (inr failed) = inr failed

    pub enter : (a : Demand) → entry_of c.before (level_type (suc l)) x (d.met x) ≡ a → Enter p d a
    unfolding Enter names
    enter Nothing asks =
        let sum = λ (h : ℕ). does.shares h ∙ ap (λ k. more k (c.before.shares h)) (let s = sums Nothing asks h in let e : total c d h ≡ total c (met_more x d) h = omega arith in e) in
        inl
        (record {
          left = p;
          doing = met_more x d;
          is = refl;
          holds = record {
            doings = doings_met c p d x (suc l) does took inside p refl refl sum does.room;
            grows = grows_met c p d x (suc l) does took inside p refl refl sum does.room;
            step = at_here x (suc (d.met x)) d.met;
            met = tt;
          };
        })
    enter Bad asks = inr (record { cause = Reserved x (d.met x) (p.cells x (d.met x)); left = p; is = refl; why = λ law. law.allowed x (d.met x) (level_type (suc l)) is_node inside asks })
    enter (Read g) asks = read_by g (goes_ref (Read g) asks g (λ h. refl) (λ law. law.plain x (d.met x) g (level_type (suc l)) is_node inside asks))
    enter (Typed g t) asks =
        let is : t ≡ level_type l = asks_at l (d.met x) (c.before.cells x (d.met x)) g t low asks in
        typed_by g t is asks
        (goes_ref (Typed g t) asks g (λ h. refl) (λ law. law.typed g t (let n = is_node in below x (d.met x) g (level_type (suc l)) t n.tree n.dead n.table inside asks)))

  -- ---- all that are left
  unfoldable pub Loop : Plain → Doing → ℕ → Type 0
  Loop p d k = Goes c (meet_last c.machine c.owner (take_at l c.machine c.owner) (let_go l) (level_type (suc l)) x k p) (Looped c p d x l)

  same_entry : (p : Plain) (d : Doing) → Doings c p d → (i : ℕ) → entry_of p (level_type (suc l)) x i ≡ entry_of c.before (level_type (suc l)) x i
  same_entry p d does i = ap (demand_at (level_type (suc l)) i) (does.cells x i)

  at_entry : (p : Plain) (d : Doing) (k : ℕ) → Doings c p d → d.met x + suc k ≡ 512 → (512 - suc k ≡ d.met x)
  at_entry p d k does sum = omega arith

  -- the next one is met, and then the others
  module _ (p : Plain) (d : Doing) (k : ℕ) (does : Doings c p d) (above : Above p d l) (took : d.taken x ≡ Some (suc l)) (sum : d.met x + suc k ≡ 512) where
    first : PlainOutcome
    first = meet c.machine c.owner (take_at l c.machine c.owner) x (512 - suc k) p (entry_of p (level_type (suc l)) x (512 - suc k))

    first_is : first ≡ meet c.machine c.owner (take_at l c.machine c.owner) x (d.met x) p (entry_of c.before (level_type (suc l)) x (d.met x))
    unfolding first
    first_is =
        let i = at_entry p d k does sum in
        ap (λ j. meet c.machine c.owner (take_at l c.machine c.owner) x j p (entry_of p (level_type (suc l)) x j)) i
        ∙ ap (λ a. meet c.machine c.owner (take_at l c.machine c.owner) x (d.met x) p a) (same_entry p d does (d.met x))

    on : Plain → PlainOutcome
    on = meet_last c.machine c.owner (take_at l c.machine c.owner) (let_go l) (level_type (suc l)) x k

    back : Plain → Plain
    back = drop_first (let_go l) (level_type (suc l)) x (512 - suc k)

    module _ (done : Done c (meet c.machine c.owner (take_at l c.machine c.owner) x (d.met x) p (entry_of c.before (level_type (suc l)) x (d.met x))) (Entered c p d x (entry_of c.before (level_type (suc l)) x (d.met x)))) where
      to_rest : then_or first back on ≡ on done.left
      to_rest = ap (λ o. then_or o back on) (first_is ∙ done.is)

      met_both : (q : Plain) (e : Doing) → Looped c done.left done.doing x l q e → (i : ℕ) → d.met x ≤ i → i < 512 → IsMet c e (entry_of c.before (level_type (suc l)) x i)
      met_both q e looped i b s =
          elim (cases_eq i (d.met x)) [
            | inl at ↦ subst (λ j. IsMet c e (entry_of c.before (level_type (suc l)) x j)) (sym at) (met_stays c done.doing e looped.grows.keeps _ done.holds.met)
            | inr off ↦ looped.met i (let n : i ≢ d.met x = off in let w = done.holds.step in omega arith) s
          ]

      and_rest : Goes c (on done.left) (Looped c done.left done.doing x l) → Goes c (then_or first back on) (Looped c p d x l)
      and_rest (inl all) =
          inl
          (record {
            left = all.left;
            doing = all.doing;
            is = to_rest ∙ all.is;
            holds = record {
              doings = all.holds.doings;
              grows = grows_more c p d done.left done.doing all.left all.doing (λ y. y ≡ x) (λ y e none. let n = sym (ap d.taken e) ∙ none in let t = took in absurd (cc)) done.holds.grows all.holds.grows;
              full = all.holds.full;
              met = met_both all.left all.doing all.holds;
            };
          })
      and_rest (inr failed) = inr (record { cause = failed.cause; left = failed.left; is = to_rest ∙ failed.is; why = failed.why })

    and_then : ((q : Plain) (e : Doing) → Doings c q e → Above q e l → e.taken x ≡ Some (suc l) → e.met x + k ≡ 512 → Loop q e k) →
        Enter p d (entry_of c.before (level_type (suc l)) x (d.met x)) → Goes c (then_or first back on) (Looped c p d x l)
    unfolding Enter Loop on
    and_then others (inl done) =
        and_rest done
        (others done.left done.doing done.holds.doings (above_more c p d done.left done.doing (λ y. y ≡ x) l above done.holds.grows) (done.holds.grows.keeps x (suc l) took)
        (let w = done.holds.step in omega arith))
    and_then others (inr failed) = inr (record { cause = failed.cause; left = back failed.left; is = ap (λ o. then_or o back on) (first_is ∙ failed.is); why = failed.why })

  pub loop : (k : ℕ) (p : Plain) (d : Doing) → Doings c p d → Above p d l → d.taken x ≡ Some (suc l) → d.met x + k ≡ 512 → Loop p d k
  unfolding Loop meet_last first on back
  loop zero p d does above took sum =
      inl
      (record {
        left = p;
        doing = d;
        is = refl;
        holds = record { doings = does; grows = grows_none c p d (λ y. y ≡ x); full = omega arith; met = λ i b s. absurd (omega arith) };
      })
  loop (suc k) p d does above took sum =
      and_then p d k does above took sum (loop k) (enter p d does above took (omega arith) (entry_of c.before (level_type (suc l)) x (d.met x)) refl)
