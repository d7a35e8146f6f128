-- Marks that move no entry: none, a turn, and the translations of a page dropped.
use Rattle.std.proofs.Common.{◌≡◌, ◌≢◌, ℕ, ◌<◌, ◌≤◌, ◌==◌, not, if◌then◌else◌, Bool, true, false, List, [], ◌∷◌, length, refl, sym, ap, subst, ◌∙◌, inl, inr, arith}
use Rattle.std.proofs.lemmas.Bool.{cases_eq}
use Rattle.xp_words.specs.KindWords.{kind_fields}
use Rattle.xp_words.specs.Machine.{Machine}
use Rattle.xp_words.specs.declared.place.Place.{Place}
use Rattle.xp_words.specs.Places.{Sizes, sizes_of}
use Rattle.xp_board.specs.declared.step.Item.{Item}
use Rattle.xp_board.specs.declared.holdings.Holdings.{Holdings}
use Rattle.xp_board.specs.Lists.{kept_of, EachOf, Member}
use Rattle.xp_board.specs.Reach.{Use, Reach, cached, walked, entry, reached_by}
use Rattle.xp_board.specs.Found.{WorkFound, Found}
use Rattle.xp_board.specs.WellFormed.{IsCacheFormed, WellFormed}
use Rattle.xp_board.specs.Sound.{Sound}
use Rattle.step_effects.proofs.MarkEffects.{Forgot}
use Rattle.found_rule.proofs.KnownFacts.{KnownRight, known_each}
use Rattle.found_rule.proofs.HandFacts.{ReachKept}
use Rattle.found_rule.proofs.MarkLaw.{MarkKept, marked_found, marked_formed}
use Rattle.xp_board.proofs.ListCounts.{EachOf-there}
use Rattle.xp_board.proofs.Works.{is_busy-mine}
use Rattle.xp_board.proofs.HandLists.{Member-kept}

-- ---- fewer translations

length_if : {A : Type 0} (y : A) (xs ys : List A) (t : Bool) → length ys ≤ length xs → length (if t then (y ∷ ys) else ys) ≤ length (y ∷ xs)
length_if y xs ys true h = omega arith
length_if y xs ys false h = omega arith

length_kept : {A : Type 0} (test : A → Bool) (xs : List A) → length (kept_of test xs) ≤ length xs
unfolding kept_of
length_kept test [] = omega arith
length_kept test (y ∷ ys) = length_if y ys (kept_of test ys) (test y) (length_kept test ys)

module _ (z : Sizes) (m : Place → ℕ) (u u2 : Holdings) (test : Item → Bool) (cache : u2.cache ≡ kept_of test u.cache) (walk : u2.walk ≡ u.walk) where
  reach_fewer : {g : ℕ} {p : Use} → Reach z m u2 g p → Reach z m u g p
  reach_fewer (cached x c) = cached x (Member-kept test x u.cache (subst (λ l. Member x l) cache c))
  reach_fewer (walked x c) = walked x (subst (λ o. Member x (reached_by o)) walk c)
  reach_fewer (entry f level i r w p b) = entry f level i (reach_fewer r) w p b

module _ (n : Machine) (s : ℕ) (m : Place → ℕ) (h b : ℕ → Holdings) (l : s < (sizes_of n).vcpus) (sound : Sound n m h) (others : (t : ℕ) → t ≢ s → b t ≡ h t) where
  -- frames in work, of which no more can come to the marked ones
  pub works_marked : ReachKept n m m h b → EachOf (WorkFound n m b (h s)) (h s).works
  works_marked reach =
      EachOf-there (WorkFound n m h (h s)) (WorkFound n m b (h s)) (λ e. e.frame) (h s).works
      (λ e there w.
      record {
        word = w.word;
        cells = w.cells;
        fixed = w.fixed;
        passed = λ v o p marked r was other found past.
            elim (reach v e.frame p r (is_busy-mine n m h sound.alone e.frame s l there) (ap (λ y. (kind_fields y).unflushed) w.word ∙ marked) past) [
              | inl before ↦ w.passed v o p marked r was other found before
              | inr reads ↦ reads
            ];
      }) (sound.found s l).works

  pub known_was : KnownRight (sizes_of n) m (h s)
  known_was = let f = sound.found s l in known_each (sizes_of n) m (h s) f.owners f.lives f.partials

  -- where references and works stay
  module _ (kept : MarkKept (h s) (b s)) (refs : (b s).refs ≡ (h s).refs) (typed : (b s).typed ≡ (h s).typed) (works : (b s).works ≡ (h s).works) where
    still_found : ReachKept n m m h b → (t : ℕ) → t < (sizes_of n).vcpus → Found n m b t
    still_found reach =
        marked_found n s m h b l sound others kept reach (rw refs known_was.refs) (rw typed known_was.typed)
        (subst (λ xs. EachOf (WorkFound n m b (h s)) xs) (sym works) (works_marked reach))

    still_formed : IsCacheFormed (b s) → (b s).turn ≤ length (h s).steps → (t : ℕ) → t < (sizes_of n).vcpus → WellFormed n t (b t)
    still_formed = marked_formed n s m h b l sound others kept (rw works (sound.formed s l).works)

  all_kept : (turn : ℕ) (xs : List Item) → b s ≡ record (h s) { turn = turn; cache = xs } → MarkKept (h s) (b s)
  all_kept turn xs e =
      record {
        steps = ap (λ u. u.steps) e;
        locks = ap (λ u. u.locks) e;
        ending = ap (λ u. u.ending) e;
        claimed = ap (λ u. u.claimed) e;
        raised = ap (λ u. u.raised) e;
        looking = ap (λ u. u.looking) e;
        cold = ap (λ u. u.cold) e;
        acked = ap (λ u. u.acked) e;
        ran = ap (λ u. u.ran) e;
        run = ap (λ u. u.run) e;
        old0 = ap (λ u. u.old0) e;
        old1 = ap (λ u. u.old1) e;
      }

  module _ (turn : ℕ) (xs : List Item) (e : b s ≡ record (h s) { turn = turn; cache = xs }) (test : Item → Bool) where
    reach_by : (b s).cache ≡ kept_of test (h s).cache → ReachKept n m m h b
    reach_by cache v f p r busy marked past =
        elim (cases_eq v s) [
          | inl at ↦
              inl
              (subst (λ y. Reach (sizes_of n) m (h y) f p) (sym at)
              (reach_fewer (sizes_of n) m (h s) (b s) test cache (ap (λ u. u.walk) e) (subst (λ y. Reach (sizes_of n) m (b y) f p) at past)))
          | inr off ↦ inl (subst (λ y. Reach (sizes_of n) m y f p) (others v off) past)
        ]

    pub fewer_found : (b s).cache ≡ kept_of test (h s).cache → (t : ℕ) → t < (sizes_of n).vcpus → Found n m b t
    fewer_found cache = still_found (all_kept turn xs e) (ap (λ u. u.refs) e) (ap (λ u. u.typed) e) (ap (λ u. u.works) e) (reach_by cache)

    pub fewer_formed : (b s).cache ≡ kept_of test (h s).cache → (b s).turn ≤ length (h s).steps → (t : ℕ) → t < (sizes_of n).vcpus → WellFormed n t (b t)
    fewer_formed cache few =
        still_formed (all_kept turn xs e) (ap (λ u. u.refs) e) (ap (λ u. u.typed) e) (ap (λ u. u.works) e)
        (let f = (sound.formed s l).cache in
        record {
          few = (let q = f.few in let k = length_kept test (h s).cache in let c = ap length cache in omega arith);
          walk = λ y t. f.walk y (sym (ap (λ u. u.walk) e) ∙ t);
        }) few

  -- ---- a hand that only begins a turn
  every : (xs : List Item) → kept_of (λ x. true) xs ≡ xs
  unfolding kept_of
  every [] = refl
  every (x ∷ xs) = ap (λ l. x ∷ l) (every xs)

  pub turned_found : (turn : ℕ) → b s ≡ record (h s) { turn = turn } → (t : ℕ) → t < (sizes_of n).vcpus → Found n m b t
  turned_found turn e = fewer_found turn (h s).cache e (λ x. true) (ap (λ u. u.cache) e ∙ sym (every (h s).cache))

  pub turned_formed : (turn : ℕ) → b s ≡ record (h s) { turn = turn } → turn ≤ length (h s).steps → (t : ℕ) → t < (sizes_of n).vcpus → WellFormed n t (b t)
  turned_formed turn e few =
      fewer_formed turn (h s).cache e (λ x. true) (ap (λ u. u.cache) e ∙ sym (every (h s).cache)) (let k : (b s).turn ≡ turn = ap (λ u. u.turn) e in omega arith)

  pub forgot_found : (page : ℕ) → Forgot page (h s) (b s) → (t : ℕ) → t < (sizes_of n).vcpus → Found n m b t
  forgot_found page d = fewer_found (h s).turn (kept_of (λ x. not (x.page == page)) (h s).cache) d.hand (λ x. not (x.page == page)) (ap (λ u. u.cache) d.hand)

  pub forgot_formed : (page : ℕ) → Forgot page (h s) (b s) → (t : ℕ) → t < (sizes_of n).vcpus → WellFormed n t (b t)
  forgot_formed page d =
      fewer_formed (h s).turn (kept_of (λ x. not (x.page == page)) (h s).cache) d.hand (λ x. not (x.page == page)) (ap (λ u. u.cache) d.hand)
      (let q = (sound.formed s l).turn in let k : (b s).turn ≡ (h s).turn = ap (λ u. u.turn) d.hand in omega arith)
