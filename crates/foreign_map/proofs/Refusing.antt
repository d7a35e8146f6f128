-- Why a call is refused whose tables and frames a number names, and what is known where it is not.
use Rattle.std.proofs.Common.{◌≡◌, ◌⊎◌, ℕ, ◌<◌, ◌≤◌, ◌^◌, ◌||◌, not, if◌then◌else◌, Bool, true, false, List, ◌++◌, length, Option, Some, None, Ok, Err, IsTrue, refl, sym, ◌∙◌, subst, inl, inr}
use Rattle.std.proofs.lemmas.Bool.{or_left, or_right}
use Rattle.xp_board.proofs.Sums.{when_eq}
use Rattle.xp_words.specs.Machine.{Machine}
use Rattle.xp_words.specs.Places.{sizes_of}
use Rattle.xp_words.specs.declared.place.Place.{Place}
use Rattle.xp_words.specs.declared.place.Place.TheVariants.{Priv}
use Rattle.xp_words.specs.declared.reply.Refusal.{Refusal}
use Rattle.xp_words.specs.declared.reply.Refusal.TheVariants.{NoDomain}
use Rattle.xp_words.proofs.Shared.{lt_true as within, lt_false as beyond}
use Rattle.xp_board.specs.declared.holdings.Holdings.{Holdings}
use Rattle.xp_board.specs.Readings.{domain_of, has_now}
use Rattle.xp_board.specs.Steps.{some_since}
use Rattle.xp_board.specs.Told.{PortValue}
use Rattle.step_maker.specs.Finding.{Finding, FoundAt}
use Rattle.step_maker.specs.Licences.{Licensed, over_others}
use Rattle.step_maker.specs.Visits.{Visit}
use Rattle.foreign_map.specs.declared.owners.Owners.{Owners}
use Rattle.foreign_map.specs.Owning.{Admits, OverOf, OwnersBy, by_number, frames_of, of_owners, tables_of}
use Rattle.foreign_map.specs.Owning as by
use Rattle.foreign_map.proofs.Looking.{Saw, Shows, saw_after, saw_before}

is_none : (b : Bool) → b ≡ false → IsTrue (not b)
is_none b e = rw e refl

or_no : (b : Bool) (x y : Option Refusal) → (if b || true then x else y) ≡ x
or_no true x y = refl
or_no false x y = refl

module _ (n : Machine) (s : ℕ) (b : Holdings) (caller foreign : ℕ) (F : Finding) (own : caller ≡ domain_of n s) where
  FoundOf : List Visit → Type 0
  FoundOf vs = (p : Place) (x : ℕ) → Saw p x vs → FoundAt F p x

  admits_licensed : (d : ℕ) (x : Refusal) (vs : List Visit) → IsTrue ((of_owners n caller foreign).over d) → (length n.page_limit ≤ d → by_number n caller foreign ≡ Some NoDomain) → FoundOf vs →
      Admits n caller d (Some x) vs → Licensed n s b (of_owners n caller foreign) F x
  unfolding FoundOf
  admits_licensed d x vs over none found (by.missing a c) = none c
  admits_licensed d x vs over none found (by.barred y a c e) =
      over_others over (inl own) (λ same. a (sym same)) y (found (Priv caller) y (inl (refl, refl))) (is_none (has_now d y) e)
  admits_licensed d x vs over none found (by.dying y z a c e k) = (over, found _ z (inl (refl, refl)), k)

  over_licensed : (x : Refusal) (vs : List Visit) → FoundOf vs → OverOf caller (tables_of caller foreign) (frames_of caller foreign) (Some x) vs → Licensed n s b (of_owners n caller foreign) F x
  unfolding FoundOf
  over_licensed x vs found (by.forbidden y a c e) =
      let frames = frames_of caller foreign in
      over_others (or_right _ _ (when_eq frames frames refl)) (inr refl) c y (found (Priv (tables_of caller foreign)) y (inl (refl, refl))) (is_none (has_now frames y) e)

  -- a number that names no domain
  no_tables_named : foreign < 2 ^ 32 → length n.page_limit ≤ tables_of caller foreign → by_number n caller foreign ≡ Some NoDomain
  no_tables_named low high = rw (within foreign (2 ^ 32) low, beyond (tables_of caller foreign) (length n.page_limit) high) refl

  no_frames_named : foreign < 2 ^ 32 → length n.page_limit ≤ frames_of caller foreign → by_number n caller foreign ≡ Some NoDomain
  no_frames_named low high = rw (within foreign (2 ^ 32) low, beyond (frames_of caller foreign) (length n.page_limit) high) (or_no _ _ _)

  found_before : (vs us : List Visit) → FoundOf (us ++ vs) → FoundOf vs
  unfolding FoundOf
  found_before vs us found p x saw = found p x (saw_before p x vs us saw)

  found_after : (vs us : List Visit) → FoundOf (us ++ vs) → FoundOf us
  unfolding FoundOf
  found_after vs us found p x saw = found p x (saw_after p x vs us saw)

  of_tables : IsTrue ((of_owners n caller foreign).over (tables_of caller foreign))
  of_tables = let t = tables_of caller foreign in or_left _ _ (when_eq t t refl)

  of_frames : IsTrue ((of_owners n caller foreign).over (frames_of caller foreign))
  of_frames = let t = frames_of caller foreign in or_right _ _ (when_eq t t refl)

  pub owners_licensed : (x : Refusal) (vs : List Visit) → ((p : Place) (y : ℕ) → Saw p y vs → FoundAt F p y) → OwnersBy n caller foreign (Err x) vs → Licensed n s b (of_owners n caller foreign) F x
  unfolding FoundOf
  owners_licensed x vs found (by.above a) = inl (rw (beyond foreign (2 ^ 32) a) refl)
  owners_licensed x vs found (by.no_tables y us a c) = admits_licensed _ x us of_tables (no_tables_named a) found c
  owners_licensed x vs found (by.no_frames y us ws a c e) = admits_licensed _ x ws of_frames (no_frames_named a) (found_after us ws found) e
  owners_licensed x vs found (by.apart y us ws ys a c e k) = over_licensed x ys (found_after (ws ++ us) ys found) k

-- ---- where it is not refused
module _ (v w : PortValue) (n : Machine) (caller foreign : ℕ) where
  -- the privilege of the one over the other was found in this turn
  Had : ℕ → ℕ → Type 0
  Had tables frames = (frames ≡ tables) ⊎ IsTrue (some_since (sizes_of v.post.machine) v.holdings.turn (Priv tables) (has_now frames) w.holdings.steps)

  SinceOf : List Visit → Type 0
  SinceOf vs = (p : Place) (x : ℕ) (test : ℕ → Bool) → test x ≡ true → Saw p x vs → IsTrue (some_since (sizes_of v.post.machine) v.holdings.turn p test w.holdings.steps)

  by_caller : (tables frames : ℕ) (vs : List Visit) → tables ≡ caller → SinceOf vs → Admits n caller frames None vs → Had tables frames
  unfolding Had SinceOf
  by_caller tables frames vs is since (by.own a) = inl (a ∙ sym is)
  by_caller tables frames vs is since (by.alive x a c e) =
      inr (subst (λ t. IsTrue (some_since (sizes_of v.post.machine) v.holdings.turn (Priv t) (has_now frames) w.holdings.steps)) (sym is)
      (since (Priv caller) x (has_now frames) e (inr (inl (refl, refl)))))

  by_tables : (tables frames : ℕ) (us vs : List Visit) → SinceOf us → SinceOf vs → Admits n caller frames None us → OverOf caller tables frames None vs → Had tables frames
  unfolding Had SinceOf
  by_tables tables frames us vs first since admits (by.same a) = inl (sym a)
  by_tables tables frames us vs first since admits (by.of_caller a) = by_caller tables frames us a first admits
  by_tables tables frames us vs first since admits (by.allowed x a c e) = inr (since (Priv tables) x (has_now frames) e (inl (refl, refl)))

  pub owners_had : (o : Owners) (vs : List Visit) → Shows v w vs → OwnersBy n caller foreign (Ok o) vs →
      (o.frames ≡ o.tables) ⊎ IsTrue (some_since (sizes_of v.post.machine) v.holdings.turn (Priv o.tables) (has_now o.frames) w.holdings.steps)
  unfolding Had SinceOf
  owners_had o vs shows (by.had us ws ys a c e k) =
      by_tables (tables_of caller foreign) (frames_of caller foreign) ws ys
      (λ p x test passes saw. shows.since p x test passes (saw_before p x (ws ++ us) ys (saw_after p x us ws saw)))
      (λ p x test passes saw. shows.since p x test passes (saw_after p x (ws ++ us) ys saw)) e k
