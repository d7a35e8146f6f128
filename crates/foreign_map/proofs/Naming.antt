-- What the steps show that read whose tables and frames a call names.
use Rattle.std.proofs.Common.{◌≡◌, ℕ, ◌==◌, ◌||◌, ◌^◌, if◌then◌else◌, Bool, true, false, List, ◌++◌, length, Option, None, Result, refl, inl, inr}
use Rattle.xp_board.proofs.Sums.{when_eq}
use Rattle.xp_words.specs.Machine.{Machine}
use Rattle.xp_words.specs.declared.place.Place.{Place}
use Rattle.xp_words.specs.declared.place.Place.TheVariants.{Life, Priv}
use Rattle.xp_words.specs.declared.reply.Refusal.{Refusal}
use Rattle.xp_words.proofs.Shared.{lt_true as within, lt_false as beyond, eq_false as when_ne}
use Rattle.xp_board.specs.Lists.{EachOf}
use Rattle.step_maker.specs.Plain.{Words}
use Rattle.step_maker.specs.Visits.{Visit}
use Rattle.step_maker.proofs.Piecing.{each_append}
use Rattle.foreign_map.specs.declared.owners.Owners.{Owners}
use Rattle.foreign_map.specs.Owning.{Admits, OverOf, OwnersBy, admit, allow, refuse_owners, owners_answer, saw_life, saw_privileges}
use Rattle.foreign_map.specs.Owning as by
use Rattle.foreign_map.proofs.Looking.{IsLook, Saw, saw_after, saw_before}

privileges_look : (d x : ℕ) → IsLook (saw_privileges d x)
privileges_look d x = record { word = refl; act = refl; mark = refl }

life_look : (d x : ℕ) → IsLook (saw_life d x)
life_look d x = record { word = refl; act = refl; mark = refl }

module _ (n : Machine) (caller : ℕ) where
  pub admits_look : (d : ℕ) (o : Option Refusal) (vs : List Visit) → Admits n caller d o vs → EachOf IsLook vs
  unfolding EachOf
  admits_look d o vs (by.own a) = tt
  admits_look d o vs (by.missing a b) = tt
  admits_look d o vs (by.barred x a b e) = (privileges_look caller x, tt)
  admits_look d o vs (by.dying x y a b e k) = (life_look d y, (privileges_look caller x, tt))
  admits_look d o vs (by.alive x a b e) = (life_look d 0, (privileges_look caller x, tt))

  pub over_look : (tables frames : ℕ) (o : Option Refusal) (vs : List Visit) → OverOf caller tables frames o vs → EachOf IsLook vs
  unfolding EachOf
  over_look tables frames o vs (by.same a) = tt
  over_look tables frames o vs (by.of_caller a) = tt
  over_look tables frames o vs (by.forbidden x a b e) = (privileges_look tables x, tt)
  over_look tables frames o vs (by.allowed x a b e) = (privileges_look tables x, tt)

  pub owners_look : (foreign : ℕ) (answer : Result Owners Refusal) (vs : List Visit) → OwnersBy n caller foreign answer vs → EachOf IsLook vs
  unfolding EachOf
  owners_look foreign answer vs (by.above a) = tt
  owners_look foreign answer vs (by.no_tables x us a b) = admits_look _ _ us b
  owners_look foreign answer vs (by.no_frames x us ws a b e) = each_append IsLook us ws (admits_look _ _ us b) (admits_look _ _ ws e)
  owners_look foreign answer vs (by.apart x us ws ys a b e k) =
      each_append IsLook (ws ++ us) ys (each_append IsLook us ws (admits_look _ _ us b) (admits_look _ _ ws e)) (over_look _ _ _ ys k)
  owners_look foreign answer vs (by.had us ws ys a b e k) =
      each_append IsLook (ws ++ us) ys (each_append IsLook us ws (admits_look _ _ us b) (admits_look _ _ ws e)) (over_look _ _ _ ys k)

-- ---- on a board that tells these words
module _ (m : Words) where
  Tells : List Visit → Type 0
  Tells vs = (p : Place) (x : ℕ) → Saw p x vs → m p ≡ x

  module _ (n : Machine) (caller : ℕ) where
    admit_told : (d : ℕ) (o : Option Refusal) (vs : List Visit) → Tells vs → Admits n caller d o vs → admit n m caller d ≡ o
    unfolding Tells
    admit_told d o vs told (by.own a) = rw (when_eq d caller a) refl
    admit_told d o vs told (by.missing a b) = rw (when_ne d caller a, beyond d (length n.page_limit) b) refl
    admit_told d o vs told (by.barred x a b e) =
        let is = told (Priv caller) x (inl (refl, refl)) in
        rw (when_ne d caller a, within d (length n.page_limit) b, is, e) refl
    admit_told d o vs told (by.dying x y a b e k) =
        let is = told (Priv caller) x (inr (inl (refl, refl))) in
        let life = told (Life d) y (inl (refl, refl)) in
        rw (when_ne d caller a, within d (length n.page_limit) b, is, e, life, when_ne y 0 k) refl
    admit_told d o vs told (by.alive x a b e) =
        let is = told (Priv caller) x (inr (inl (refl, refl))) in
        let life = told (Life d) 0 (inl (refl, refl)) in
        rw (when_ne d caller a, within d (length n.page_limit) b, is, e, life) refl

  either_none : (b : Bool) (x : Option Refusal) → (if b || true then None else x) ≡ None
  either_none true x = refl
  either_none false x = refl

  allow_told : (caller tables frames : ℕ) (o : Option Refusal) (vs : List Visit) → Tells vs → OverOf caller tables frames o vs → allow m caller tables frames ≡ o
  unfolding Tells
  allow_told caller tables frames o vs told (by.same a) = rw (when_eq tables frames a) (either_none (tables == caller) _)
  allow_told caller tables frames o vs told (by.of_caller a) = rw (when_eq tables caller a) refl
  allow_told caller tables frames o vs told (by.forbidden x a b e) = rw (when_ne tables caller a, when_ne tables frames b, told (Priv tables) x (inl (refl, refl)), e) refl
  allow_told caller tables frames o vs told (by.allowed x a b e) = rw (when_ne tables caller a, when_ne tables frames b, told (Priv tables) x (inl (refl, refl)), e) refl

  -- of two lists one behind the other
  told_before : (vs us : List Visit) → Tells (us ++ vs) → Tells vs
  unfolding Tells
  told_before vs us told p x saw = told p x (saw_before p x vs us saw)

  told_after : (vs us : List Visit) → Tells (us ++ vs) → Tells us
  unfolding Tells
  told_after vs us told p x saw = told p x (saw_after p x vs us saw)

  pub owners_told : (n : Machine) (caller foreign : ℕ) (answer : Result Owners Refusal) (vs : List Visit) → ((p : Place) (x : ℕ) → Saw p x vs → m p ≡ x) → OwnersBy n caller foreign answer vs →
      answer ≡ owners_answer caller foreign (refuse_owners n m caller foreign)
  unfolding Tells
  owners_told n caller foreign answer vs told (by.above a) = rw (beyond foreign (2 ^ 32) a) refl
  owners_told n caller foreign answer vs told (by.no_tables x us a b) = rw (within foreign (2 ^ 32) a, admit_told n caller _ _ us told b) refl
  owners_told n caller foreign answer vs told (by.no_frames x us ws a b e) =
      rw (within foreign (2 ^ 32) a, admit_told n caller _ _ us (told_before us ws told) b, admit_told n caller _ _ ws (told_after us ws told) e) refl
  owners_told n caller foreign answer vs told (by.apart x us ws ys a b e k) =
      let first = told_before (ws ++ us) ys told in
      rw (within foreign (2 ^ 32) a, admit_told n caller _ _ us (told_before us ws first) b, admit_told n caller _ _ ws (told_after us ws first) e, allow_told caller _ _ _ ys (told_after (ws ++ us) ys told) k) refl
  owners_told n caller foreign answer vs told (by.had us ws ys a b e k) =
      let first = told_before (ws ++ us) ys told in
      rw (within foreign (2 ^ 32) a, admit_told n caller _ _ us (told_before us ws first) b, admit_told n caller _ _ ws (told_after us ws first) e, allow_told caller _ _ _ ys (told_after (ws ++ us) ys told) k) refl
