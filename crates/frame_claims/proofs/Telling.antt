-- Lists of steps on a board that tells all words: what each of them found.
use Rattle.std.proofs.Common.{◌≡◌, ◌≢◌, ℕ, ◌+◌, ◌⊎◌, true, List, [], ◌∷◌, ◌++◌, Option, Some, None, refl, sym, ap, ◌∙◌, subst, inl, inr, arith}
use Rattle.xp_words.specs.declared.place.Place.{Place}
use Rattle.xp_board.specs.declared.step.Act.TheVariants.{Load}
use Rattle.xp_board.specs.Lists.{EachOf}
use Rattle.xp_board.specs.Told.{PortValue, is_telling, told_word}
use Rattle.xp_board.proofs.PlaceTests.{is_same-other}
use Rattle.step_maker.specs.Moves.{Moment, Ran}
use Rattle.step_maker.specs.Plain.{Leaves, Words, change}
use Rattle.step_maker.proofs.Telling.{changed, leaves, ran_telling, told_there, load_leaves}
use Rattle.step_maker.specs.Visits.{Visit, Does, Nothing, Only, Then, visits}
use Rattle.step_maker.proofs.Piecing.{each_append}
use Rattle.frame_claims.specs.Found as founds
use Rattle.frame_claims.specs.Found.{FirstOf, Upwards}
use Rattle.frame_claims.specs.Plain.{ref_look, ref_looks}

-- ---- each of a list, whatever list it is
abbrev pub Alls : (Visit → Type 0) → (List Visit → Type 0) → Type 0
Alls Q P = (vs : List Visit) → P vs → EachOf Q vs

module _ (Q : Visit → Type 0) where
  pub alls_nothing : Alls Q Nothing
  unfolding EachOf
  alls_nothing vs is = subst (EachOf Q) (sym is) tt

  pub alls_one : (x : Visit) → Q x → Alls Q (Only x)
  unfolding EachOf
  alls_one x q vs is = subst (EachOf Q) (sym is) (q, tt)

  pub alls_then : (P R : List Visit → Type 0) → Alls Q P → Alls Q R → Alls Q (Then P R)
  alls_then P R a b vs t = subst (EachOf Q) (sym t.list) (each_append Q t.before t.after (a t.before t.first) (b t.after t.next))

  pub alls_up : (P : ℕ → List Visit → Type 0) (from n : ℕ) → ((i : ℕ) → Alls Q (P i)) → Alls Q (λ vs. Upwards P from n vs)
  alls_up P from _ each _ (founds.Upwards.starts vs is) = alls_nothing vs is
  alls_up P from _ each _ (founds.Upwards.goes_up n before now vs earlier here is) =
      subst (EachOf Q) (sym is) (each_append Q before now (alls_up P from n each before earlier) (each n now here))

  pub alls_down : (P : ℕ → List Visit → Type 0) (below n : ℕ) → ((i : ℕ) → Alls Q (P i)) → Alls Q (λ vs. founds.Downwards P below n vs)
  alls_down P below _ each _ (founds.Downwards.begins vs is) = alls_nothing vs is
  alls_down P below _ each _ (founds.Downwards.goes_down n before now vs earlier here is) =
      subst (EachOf Q) (sym is) (each_append Q before now (alls_down P below (n + 1) each before earlier) (each n now here))

  pub alls_first : {A : Type 0} (P : ℕ → Option A → List Visit → Type 0) (n : ℕ) (o : Option A) → ((i : ℕ) (p : Option A) → Alls Q (P i p)) → Alls Q (λ vs. FirstOf P n o vs)
  alls_first P n None each vs t = alls_up (λ i us. P i None us) 0 n (λ i. each i None) vs t
  alls_first P n (Some a) each vs t =
      alls_then (λ us. Upwards (λ j ws. P j None ws) 0 t.0 us) (λ us. P t.0 (Some a) us) (alls_up (λ j ws. P j None ws) 0 t.0 (λ j. each j None)) (each t.0 (Some a)) vs t.2

  pub each_parts : (xs ys : List Visit) → EachOf Q (ys ++ xs) → EachOf Q xs × EachOf Q ys
  unfolding EachOf
  each_parts xs [] all = (all, tt)
  each_parts xs (y ∷ ys) all = let rest = each_parts xs ys all.1 in (rest.0, (all.0, rest.1))

-- ---- what each found
-- the words behind the steps, and that each found the word that was there
abbrev pub words_after : Words → List Visit → Words
words_after m [] = m
words_after m (s ∷ vs) = change s.act s.place (words_after m vs)

abbrev pub AllTold : Words → List Visit → Type 0
AllTold m [] = Unit {0}
AllTold m (s ∷ vs) = (s.found ≡ words_after m vs s.place) × AllTold m vs

pub after_parts : (m : Words) (xs ys : List Visit) → words_after m (ys ++ xs) ≡ words_after (words_after m xs) ys
after_parts m xs [] = refl
after_parts m xs (y ∷ ys) = ap (change y.act y.place) (after_parts m xs ys)

pub told_parts : (m : Words) (xs ys : List Visit) → AllTold m (ys ++ xs) → AllTold m xs × AllTold (words_after m xs) ys
told_parts m xs [] told = (told, tt)
told_parts m xs (y ∷ ys) told =
    let rest = told_parts m xs ys told.1 in
    (rest.0, ((told.0 ∙ ap (λ (k : Words). k y.place) (after_parts m xs ys), rest.1)))

pub told_ran : (v w : PortValue) (ms : List Moment) → Ran v ms w → is_telling v ≡ true → AllTold (told_word v) (visits ms) × Leaves w (words_after (told_word v) (visits ms))
told_ran v w [] ran telling = (tt, λ q. ap (λ (y : PortValue). told_word y q) ran)
told_ran v w (m ∷ ms) ran telling =
    let u = ran.0 in
    let before = told_ran v u ms ran.1 telling in
    let tells = ran_telling v u ms ran.1 ∙ telling in
    let found = told_there u w m.place m.act m.kind m.mark m.found ran.2.moves tells in (
      (sym found ∙ before.1 m.place, before.0),
      λ q. leaves u w m.place m.act m.kind m.mark m.found ran.2.moves tells q ∙ changed m.act m.place (told_word u) (words_after (told_word v) (visits ms)) before.1 q,
    )

-- the same list, with what it found
pub does_told : (v w : PortValue) (P Q : List Visit → Type 0) → is_telling v ≡ true → ((vs : List Visit) → AllTold (told_word v) vs → P vs → Q vs) → Does v w P → Does v w Q
unfolding Does
does_told v w P Q telling so does = (does.0, does.1, so (visits does.0) (told_ran v w does.0 does.1 telling).0 does.2)

pub does_holds : (v w : PortValue) (P : List Visit → Type 0) (C : Type 0) → is_telling v ≡ true → ((vs : List Visit) → AllTold (told_word v) vs → P vs → C) → Does v w P → C
unfolding Does
does_holds v w P C telling so does = so (visits does.0) (told_ran v w does.0 does.1 telling).0 does.2

-- ---- words that no step changes
abbrev pub IsAway : Place → Visit → Type 0
IsAway p s = (s.act ≡ Load) ⊎ (s.place ≢ p)

by_away : (s : Visit) (p : Place) (m : Words) → IsAway p s → change s.act s.place m p ≡ m p
by_away s p m (inl load) = rw load (load_leaves s.place m p)
by_away s p m (inr off) = let no = is_same-other p s.place (λ e. off (sym e)) in rw no refl

pub away_same : (p : Place) (m : Words) (vs : List Visit) → EachOf (IsAway p) vs → words_after m vs p ≡ m p
unfolding EachOf
away_same p m [] all = refl
away_same p m (s ∷ vs) all = by_away s p (words_after m vs) all.0 ∙ away_same p m vs all.1

-- looks alone: each found the word that stood there before all of them
abbrev pub IsLook : Visit → Type 0
IsLook s = s.act ≡ Load

abbrev pub Saw : Words → Visit → Type 0
Saw m s = s.found ≡ m s.place

all_away : (p : Place) (vs : List Visit) → EachOf IsLook vs → EachOf (IsAway p) vs
unfolding EachOf
all_away p [] all = tt
all_away p (s ∷ vs) all = (inl all.0, all_away p vs all.1)

pub looks_same : (m : Words) (vs : List Visit) → EachOf IsLook vs → (p : Place) → words_after m vs p ≡ m p
looks_same m vs all p = away_same p m vs (all_away p vs all)

pub looks_saw : (m : Words) (vs : List Visit) → EachOf IsLook vs → AllTold m vs → EachOf (Saw m) vs
unfolding EachOf
looks_saw m [] all told = tt
looks_saw m (s ∷ vs) all told = (told.0 ∙ looks_same m vs all.1 s.place, looks_saw m vs all.1 told.1)

-- words that are the same
pub saw_same : (m k : Words) (vs : List Visit) → ((p : Place) → m p ≡ k p) → EachOf (Saw m) vs → EachOf (Saw k) vs
unfolding EachOf
saw_same m k [] same all = tt
saw_same m k (s ∷ vs) same all = (all.0 ∙ same s.place, saw_same m k vs same all.1)

-- ---- how many looks
pub looks_append : (xs ys : List Visit) → ref_looks (ys ++ xs) ≡ ref_looks ys + ref_looks xs
looks_append xs [] = omega arith
looks_append xs (y ∷ ys) = let rest = looks_append xs ys in omega (arith, rest)

abbrev pub IsNoRefLook : Visit → Type 0
IsNoRefLook s = ref_look s.place s.act ≡ 0

pub no_looks : (vs : List Visit) → EachOf IsNoRefLook vs → ref_looks vs ≡ 0
unfolding EachOf
no_looks [] all = refl
no_looks (s ∷ vs) all = let rest = no_looks vs all.1 in let none = all.0 in omega (arith, rest, none)
