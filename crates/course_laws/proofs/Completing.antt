-- A full table is made live; where it was resumed, the type count and the reference that are one too many are given back.
use Rattle.std.proofs.Common.{◌≡◌, ◌≢◌, ◌⊎◌, ℕ, zero, suc, ◌+◌, ◌-◌, ◌<◌, ◌%◌, ◌^◌, ◌==◌, if◌then◌else◌, Bool, true, false, List, [], ◌∷◌, Some, None, IsTrue, refl, sym, ap, ◌∙◌, subst, inl, inr, arith}
use Rattle.std.proofs.lemmas.Bool.Decides.{nat_tests}
use Rattle.xp_words.specs.KindWords.{is_kind, kind_fields, kind_write}
use Rattle.xp_words.specs.Machine.{Machine}
use Rattle.xp_words.specs.declared.kind.KindWord.{KindWord}
use Rattle.xp_words.specs.declared.place.Place.TheVariants.{Cell, Kind, Refs}
use Rattle.xp_board.specs.Acts.{left_by}
use Rattle.xp_board.specs.Readings.{is_dead, kind_at, owner_of, ref_count}
use Rattle.xp_board.specs.RefSteps.{one_down, owner_number}
use Rattle.xp_board.specs.declared.step.Act.TheVariants.{Add}
use Rattle.xp_words.specs.declared.place.Place.{Place}
use Rattle.step_maker.specs.Plain.{Words, change}
use Rattle.step_maker.proofs.Alikes.{same_alike}
use Rattle.frame_words.specs.Plain.{lowered, put, set_free}
use Rattle.frame_types.specs.Plain.{set_kind}
use Rattle.kind_words.specs.Kinds.{live_kind}
use Rattle.kind_words.proofs.KindWriting.{fields_write, live_is}
use Rattle.partial_state.specs.Levels.{level_type}
use Rattle.partial_state.proofs.LevelFacts.{level_type-typed}
use Rattle.partial_state.specs.declared.stack.TableWork.{TableWork}
use Rattle.table_law.specs.Lawful.{share_count}
use Rattle.table_law.specs.Plain.{Describes, Plain, Share, fewer, reference_back, share_of, sober, with_kind}
use Rattle.table_law.specs.Stack.{rest, table_left}
use Rattle.table_law.proofs.Counting.{at_here, at_there}
use Rattle.table_law.proofs.Steps.{rest_full}
use Rattle.table_twins.proofs.Kinding.{described_alike}
use Rattle.table_twins.proofs.Sharing.{same_back}
use Rattle.course_laws.proofs.Stacking.{lefts}
use Rattle.course_laws.proofs.Extras.{IsSame, described_same, extra, lent, more_of}
use Rattle.course_laws.proofs.Pacing.{Aim, Carries, Flagged, IsLastSettled, Paces, extra_own, lent_same}
use Rattle.course_laws.proofs.Recording.{IsSettled}
use Rattle.course_laws.proofs.Under.{Chained, IsIn, IsKindBut, IsStill, Spelled, TableOf, Under, above_off, chained_cells, count_of, frames_but, same_grown, tables_but}

-- ---- words of which one kind word is another
pub record IsKinded (m x : Words) (f new : ℕ) : Type 0 where
  pub refs : (h : ℕ) → x (Refs h) ≡ m (Refs h)
  pub cells : (h i : ℕ) → x (Cell h i) ≡ m (Cell h i)
  pub kinds : (h : ℕ) → x (Kind h) ≡ (if h == f then new else m (Kind h))

either_kind : (b : Bool) (k l : KindWord) (new old : ℕ) → k ≡ sober (kind_fields new) → l ≡ sober (kind_fields old) → (if b then k else l) ≡ sober (kind_fields (if b then new else old))
either_kind true k l new old here there = here
either_kind false k l new old here there = there

pub described_kind : (n : Machine) (m x : Words) (p : Plain) (f new : ℕ) (k : KindWord) → IsKinded m x f new → k ≡ sober (kind_fields new) → Describes n m p → Describes n x (with_kind f k p)
described_kind n m x p f new k is here d =
    record {
      shares = λ h inside. d.shares h inside ∙ sym (ap share_of (is.refs h));
      kinds = λ h inside. either_kind (h == f) k (p.kinds h) new (m (Kind h)) here (d.kinds h inside) ∙ sym (ap (λ w. sober (kind_fields w)) (is.kinds h));
      cells = λ h i inside few. d.cells h i inside few ∙ sym (is.cells h i);
    }

module _ (n : Machine) (m x : Words) (p q : Plain) (f new : ℕ) (is : IsKinded m x f new) (but : IsKindBut f p q) (spells : Spelled n m p) where
  spelled_by : (b : Bool) (h : ℕ) → (h == f) ≡ b → ((is_dead (q.kinds f) ≡ true) ⊎ ((q.kinds f).validated ≡ true) → IsTrue (is_kind (kind_fields new))) → h < n.frames → (is_dead (q.kinds h) ≡ true) ⊎ ((q.kinds h).validated ≡ true) → IsTrue (is_kind (kind_at x h))
  spelled_by true h same here inside out =
      let e : h ≡ f = grind (arith, nat_tests) in
      let at : x (Kind h) ≡ new = is.kinds h ∙ ap (λ b. if b then new else m (Kind h)) same in
      subst (λ w. IsTrue (is_kind (kind_fields w))) (sym at) (here (subst (λ i. (is_dead (q.kinds i) ≡ true) ⊎ ((q.kinds i).validated ≡ true)) e out))
  spelled_by false h same here inside out =
      let off : h ≢ f = grind (arith, nat_tests) in
      let at : x (Kind h) ≡ m (Kind h) = is.kinds h ∙ ap (λ b. if b then new else m (Kind h)) same in
      subst (λ w. IsTrue (is_kind (kind_fields w))) (sym at) (spells h inside (subst (λ k. (is_dead k ≡ true) ⊎ (k.validated ≡ true)) (but h off) out))

  pub spelled_kind : ((is_dead (q.kinds f) ≡ true) ⊎ ((q.kinds f).validated ≡ true) → IsTrue (is_kind (kind_fields new))) → Spelled n x q
  spelled_kind here h inside out = spelled_by (h == f) h refl here inside out

pub stored_kinded : (m : Words) (f : ℕ) (new : KindWord) → IsKinded m (set_kind f new m) f (kind_write new)
unfolding left_by
stored_kinded m f new = record { refs = λ h. refl; cells = λ h i. refl; kinds = λ h. refl }

lower_by : (b : Bool) (y : ℕ) (word m : ℕ) → (if b then (y + one_down) % 2 ^ 64 else (if b then word else m)) ≡ (if b then (y + one_down) % 2 ^ 64 else m)
lower_by true y word m = refl
lower_by false y word m = refl

pub itself : (f : ℕ) → (f == f) ≡ true
itself f = grind (arith, nat_tests)

pub lowered_kinded : (m : Words) (f : ℕ) (new : KindWord) → IsKinded m (change (Add one_down) (Kind f) (set_kind f new m)) f ((kind_write new + one_down) % 2 ^ 64)
unfolding left_by
lowered_kinded m f new =
    record {
      refs = λ h. refl;
      cells = λ h i. refl;
      kinds = λ h.
          ap (λ b. if h == f then ((if b then kind_write new else m (Kind f)) + one_down) % 2 ^ 64 else (if h == f then kind_write new else m (Kind h))) (itself f) ∙ lower_by (h == f) (kind_write new) (kind_write new) (m (Kind h));
    }

pub same_kinded : (m x y : Words) (f new : ℕ) → IsKinded m x f new → ((h : ℕ) → y (Refs h) ≡ x (Refs h)) → ((h i : ℕ) → y (Cell h i) ≡ x (Cell h i)) → ((h : ℕ) → y (Kind h) ≡ x (Kind h)) → IsKinded m y f new
same_kinded m x y f new is refs cells kinds = record { refs = λ h. refs h ∙ is.refs h; cells = λ h i. cells h i ∙ is.cells h i; kinds = λ h. kinds h ∙ is.kinds h }

-- of two type counts one is left
lowered_live : (l : ℕ) → kind_fields ((kind_write (live_kind (level_type l) 2) + one_down) % 2 ^ 64) ≡ live_kind (level_type l) 1
unfolding kind_write kind_fields
lowered_live zero = refl
lowered_live (suc zero) = refl
lowered_live (suc (suc zero)) = refl
lowered_live (suc (suc (suc zero))) = refl
lowered_live (suc (suc (suc (suc l)))) = refl

-- a reference that is given back changes no kind word
put_by : (b : Bool) (f o h : ℕ) (m : Words) → (if b then set_free f o (lowered f m) else lowered f m) (Kind h) ≡ m (Kind h)
put_by true f o h m = refl
put_by false f o h m = refl

pub put_kind : (f h : ℕ) (m : Words) → put f m (Kind h) ≡ m (Kind h)
put_kind f h m = put_by (ref_count (m (Refs f)) == 1) f (owner_number (owner_of (m (Refs f)))) h m

-- ---- the reference that was lent to the innermost table is given back
one_less : (c e : ℕ) (o : ℕ) (a : Bool) → 0 < c → fewer (Some (record { owner = o; allocated = a; count = c + (1 + e) })) ≡ Some (record { owner = o; allocated = a; count = c + e })
one_less c e o a some =
    let off : (c + (1 + e) == 1) ≡ false = grind (arith, nat_tests) in
    let low : c + (1 + e) - 1 ≡ c + e = omega arith in
    ap (λ b. if b then None else Some (record { owner = o; allocated = a; count = c + (1 + e) - 1 })) off ∙ ap (λ k. Some (record { owner = o; allocated = a; count = k })) low

module _ (t : TableWork) (ts : List TableWork) (shared : t.own ≡ false) where
  extra_here : extra (t ∷ ts) t.frame ≡ 1 + extra ts t.frame
  extra_here = ap (λ b. (if b then 0 else (if t.frame == t.frame then 1 else 0)) + extra ts t.frame) shared ∙ ap (λ b. (if b then 1 else 0) + extra ts t.frame) (itself t.frame)

  extra_there : (h : ℕ) → (h == t.frame) ≡ false → extra (t ∷ ts) h ≡ extra ts h
  extra_there h off = let none : 0 + extra ts h ≡ extra ts h = omega arith in ap (λ b. (if b then 0 else (if h == t.frame then 1 else 0)) + extra ts h) shared ∙ ap (λ b. (if b then 1 else 0) + extra ts h) off ∙ none

  back_by : (p : Plain) (s : Share) (b : Bool) (h : ℕ) → p.shares t.frame ≡ Some s → 0 < s.count → (h == t.frame) ≡ b →
      more_of (extra ts h) (p.shares h) ≡ (if b then fewer (more_of (extra (t ∷ ts) t.frame) (p.shares t.frame)) else more_of (extra (t ∷ ts) h) (p.shares h))
  back_by p s true h was some is =
      let e : h ≡ t.frame = grind (arith, nat_tests) in
      ap (λ i. more_of (extra ts i) (p.shares i)) e ∙ ap (more_of (extra ts t.frame)) was ∙ sym (one_less s.count (extra ts t.frame) s.owner s.allocated some)
      ∙ ap (λ x. fewer (more_of x (Some s))) (sym extra_here) ∙ ap (λ o. fewer (more_of (extra (t ∷ ts) t.frame) o)) (sym was)
  back_by p s false h was some is = ap (λ x. more_of x (p.shares h)) (sym (extra_there h is))

  pub back_lent : (p : Plain) (s : Share) → p.shares t.frame ≡ Some s → 0 < s.count → IsSame (reference_back t.frame (lent (extra (t ∷ ts)) p)) (lent (extra ts) p)
  back_lent p s was some = record { shares = λ h. back_by p s (h == t.frame) h was some refl; kinds = λ h. refl; cells = λ h i. refl }

-- ---- a table is complete
pub rest_chained : (p : Plain) (t : TableWork) (ts : List TableWork) → Chained p (t ∷ ts) → Chained p ts
rest_chained p t [] c = tt
rest_chained p t (o ∷ ts) c = c.1

rest_flags : (t : TableWork) (ts : List TableWork) → Flagged (t ∷ ts) → Flagged ts
rest_flags t [] f = tt
rest_flags t (o ∷ ts) f = f.1

module _ (n : Machine) (owner : ℕ) (m : Words) (t : TableWork) (ts : List TableWork) (a : Aim) (s : Carries n owner m (t ∷ ts) a) (full : t.done ≡ 512) where
  table : TableOf n owner s.plain t
  table = s.under.tables.0

  unfoldable pub live : Plain
  live = with_kind t.frame (live_kind (level_type t.level) 1) s.plain

  live_here : live.kinds t.frame ≡ live_kind (level_type t.level) 1
  unfolding live
  live_here = at_here t.frame (live_kind (level_type t.level) 1) s.plain.kinds

  live_but : IsKindBut t.frame s.plain live
  unfolding live
  live_but h off = at_there t.frame h (live_kind (level_type t.level) 1) s.plain.kinds off

  out_of : (h : ℕ) → h ≢ t.frame → IsIn (t ∷ ts) h → IsIn ts h
  out_of h off (inl is) = absurd (off (sym is))
  out_of h off (inr one) = one

  full_ahead : rest n owner (lefts ts) live ≡ a.outcome
  unfolding live
  full_ahead =
      let none : 512 - t.done ≡ 0 = omega arith in
      let level : suc (t.level - 1) ≡ t.level = (let low = table.low in omega arith) in
      subst (λ l. rest n owner (lefts ts) (with_kind t.frame (live_kind (level_type l) 1) s.plain) ≡ a.outcome) level
      (sym (rest_full n owner t.frame (t.level - 1) (lefts ts) s.plain) ∙ subst (λ k. rest n owner (table_left t.frame (t.level - 1) k ∷ lefts ts) s.plain ≡ a.outcome) none s.under.ahead)

  live_under : Under n owner live ts a.outcome
  unfolding live
  live_under =
      let count : count_of live t.frame ≡ table.share.count = ap share_count table.was in
      let off = above_off n owner s.plain t.frame t.level ts table.high table.work s.under.tables.1 s.under.tables.2 in
      record {
        frames = frames_but n owner s.plain live t.frame (same_grown s.plain live (λ h. refl)) live_but (t ∷ ts) ts out_of
            (inl (subst (λ k. IsStill k (count_of live t.frame)) (sym live_here) (inr (record { live = refl; some = omega arith; within = (let some = table.some in omega arith) })))) s.under.frames;
        tables = tables_but n owner s.plain live t.frame (same_grown s.plain live (λ h. refl)) live_but ts off s.under.tables.2;
        chain = rest_chained live t ts (chained_cells s.plain live (t ∷ ts) (λ g j. refl) s.under.chain);
        ahead = full_ahead;
      }

  settled_by : (us : List TableWork) → Chained s.plain (t ∷ us) → IsLastSettled n live us
  unfolding live
  settled_by [] c = tt
  settled_by (o ∷ us) c = λ some. subst (IsSettled n live) (sym c.0.2) (table.inside, ap (λ (k : KindWord). k.validated) live_here)

  pub live_paces : (x : Words) → Describes n x (lent (extra ts) live) → Spelled n x live → Paces n owner x ts a
  live_paces x describes spelled = record { on = record { plain = live; under = live_under; describes = describes; spelled = spelled; flags = rest_flags t ts s.flags; mine = λ whole. (s.mine whole).1 }; settled = settled_by ts s.under.chain }

  -- with its own type count
  module _ (x : Words) (own : t.own ≡ true) (stored : IsKinded m x t.frame (kind_write (live_kind (level_type t.level) 1))) where
    live_is_one : kind_fields (kind_write (live_kind (level_type t.level) 1)) ≡ live_kind (level_type t.level) 1
    live_is_one = fields_write (live_kind (level_type t.level) 1) (live_is (level_type t.level) (level_type-typed t.level) 1 (omega arith))

    pub own_paces : Paces n owner x ts a
    unfolding live
    own_paces =
        let k = live_kind (level_type t.level) 1 in
        live_paces x
        (described_same n x (lent (extra (t ∷ ts)) live) (lent (extra ts) live) (lent_same (extra (t ∷ ts)) (extra ts) live (λ g. sym (extra_own t ts own g)))
        (described_kind n m x (lent (extra (t ∷ ts)) s.plain) t.frame (kind_write k) k stored (sym (ap sober live_is_one)) s.describes))
        (spelled_kind n m x s.plain live t.frame (kind_write k) stored live_but s.spelled (λ out. subst (λ j. IsTrue (is_kind j)) (sym live_is_one) (live_is (level_type t.level) (level_type-typed t.level) 1 (omega arith))))

  -- with one that came beside another holder's, which is given back with its reference
  module _ (b x : Words) (shared : t.own ≡ false) (lowers : IsKinded m b t.frame ((kind_write (live_kind (level_type t.level) 2) + one_down) % 2 ^ 64)) (puts : (q : Place) → x q ≡ put t.frame b q) where
    count_there : (lent (extra (t ∷ ts)) live).shares t.frame ≡ more_of (extra (t ∷ ts) t.frame) (Some table.share)
    unfolding live
    count_there = ap (more_of (extra (t ∷ ts) t.frame)) table.was

    lowered_described : Describes n b (lent (extra (t ∷ ts)) live)
    unfolding live
    lowered_described = described_kind n m b (lent (extra (t ∷ ts)) s.plain) t.frame _ (live_kind (level_type t.level) 1) lowers (sym (ap sober (lowered_live t.level))) s.describes

    lowered_spelled : Spelled n b live
    lowered_spelled = spelled_kind n m b s.plain live t.frame _ lowers live_but s.spelled (λ out. subst (λ j. IsTrue (is_kind j)) (sym (lowered_live t.level)) (live_is (level_type t.level) (level_type-typed t.level) 1 (omega arith)))

    pub shared_paces : Paces n owner x ts a
    unfolding live
    shared_paces =
        let q = lent (extra (t ∷ ts)) live in
        let s2 : Share = record { owner = table.share.owner; allocated = table.share.allocated; count = table.share.count + extra (t ∷ ts) t.frame } in
        live_paces x
        (described_same n x (reference_back t.frame q) (lent (extra ts) live) (back_lent t ts shared live table.share table.was table.some)
        (described_alike n x (put t.frame b) (reference_back t.frame q) (same_alike x (put t.frame b) puts) (same_back n b q t.frame s2 lowered_described table.inside count_there)))
        (λ h inside out. subst (λ w. IsTrue (is_kind (kind_fields w))) (sym (puts (Kind h) ∙ put_kind t.frame h b)) (lowered_spelled h inside out))
