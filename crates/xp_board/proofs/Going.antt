-- Legal steps of one port, one behind the other.
use Rattle.std.proofs.Common.{◌≡◌, ℕ, List, [], ◌∷◌, ◌++◌, Option, Some, None, is_some, refl, sym, ap, ◌∙◌, subst, inl, inr}
use Rattle.xp_words.specs.Machine.{Machine}
use Rattle.xp_words.specs.declared.place.Place.{Place}
use Rattle.xp_board.specs.declared.step.Step.{Step}
use Rattle.xp_board.specs.declared.holdings.Holdings.{Holdings}
use Rattle.xp_board.specs.declared.holdings.Made.{Made}
use Rattle.xp_board.specs.Legal.{Legal}
use Rattle.xp_board.specs.Runs.{place_of}
use Rattle.xp_board.specs.Told.{Post, PortValue, Story, tells, stepped, is_telling, IsTold, Went, Goes, Had, Saw}

-- ---- by the list of steps
pub went_more : (v u w : PortValue) (xs ys : List Made) → Went v xs u → Went u ys w → Went v (ys ++ xs) w
went_more v u w xs [] a b = subst (Went v xs) (sym b) a
went_more v u w xs (y ∷ ys) a b = (b.0, went_more v u b.0 xs ys a b.1, b.2, b.3, b.4)

pub went_post : (v w : PortValue) (xs : List Made) → Went v xs w → w.post ≡ v.post
went_post v w [] a = ap (λ (x : PortValue). x.post) a
went_post v w (y ∷ ys) a = ap (λ (x : PortValue). x.post) a.4 ∙ went_post v a.0 ys a.1

-- a board that tells all words goes on telling them
telling_next : (s found : ℕ) (x : Step) (h : Holdings) (o : Option Story) → is_some (tells s x found h o) ≡ is_some o
telling_next s found x h None = refl
telling_next s found x h (Some a) = refl

pub went_telling : (v w : PortValue) (xs : List Made) → Went v xs w → is_telling w ≡ is_telling v
went_telling v w [] a = ap is_telling a
went_telling v w (y ∷ ys) a = ap is_telling a.4 ∙ telling_next a.0.post.vcpu y.found y.step _ a.0.told ∙ went_telling v a.0 ys a.1

pub went_step : (v w : PortValue) (x : Step) (found : ℕ) → Legal v.post.machine v.post.vcpu v.holdings x →
    IsTold v.post.machine v.told (place_of v.post.machine x) found → w ≡ stepped v x found → Went v (record { step = x; found = found } ∷ []) w
went_step v w x found legal told is = (v, refl, legal, told, is)

pub had_earlier : (n : Machine) (p : Place) (w : ℕ) (xs ys : List Made) → Had n p w xs → Had n p w (ys ++ xs)
had_earlier n p w xs [] h = h
had_earlier n p w xs (y ∷ ys) h = inr (had_earlier n p w xs ys h)

pub had_later : (n : Machine) (p : Place) (w : ℕ) (xs ys : List Made) → Had n p w ys → Had n p w (ys ++ xs)
had_later n p w xs [] h = absurd h
had_later n p w xs (y ∷ ys) (inl h) = inl h
had_later n p w xs (y ∷ ys) (inr h) = inr (had_later n p w xs ys h)

-- ---- without it
pub goes_self : (v : PortValue) → Goes v v
unfolding Goes
goes_self v = ([], refl)

pub goes_step : (v w : PortValue) (x : Step) (found : ℕ) → Legal v.post.machine v.post.vcpu v.holdings x →
    IsTold v.post.machine v.told (place_of v.post.machine x) found → w ≡ stepped v x found → Goes v w
unfolding Goes
goes_step v w x found legal told is = (record { step = x; found = found } ∷ [], went_step v w x found legal told is)

pub goes_trans : (v u w : PortValue) → Goes v u → Goes u w → Goes v w
unfolding Goes
goes_trans v u w a b = (b.0 ++ a.0, went_more v u w a.0 b.0 a.1 b.1)

pub saw_step : (v w : PortValue) (x : Step) (found : ℕ) → Legal v.post.machine v.post.vcpu v.holdings x →
    IsTold v.post.machine v.told (place_of v.post.machine x) found → w ≡ stepped v x found → Saw v w (place_of v.post.machine x) found
unfolding Saw
saw_step v w x found legal told is =
    (record { step = x; found = found } ∷ [], went_step v w x found legal told is, inl (refl, refl))

pub saw_before : (v u w : PortValue) (p : Place) (x : ℕ) → Saw v u p x → Goes u w → Saw v w p x
unfolding Goes Saw
saw_before v u w p x a b = (b.0 ++ a.0, went_more v u w a.0 b.0 a.1 b.1, had_earlier v.post.machine p x a.0 b.0 a.2)

pub saw_after : (v u w : PortValue) (p : Place) (x : ℕ) → Goes v u → Saw u w p x → Saw v w p x
unfolding Goes Saw
saw_after v u w p x a b = (
  b.0 ++ a.0,
  went_more v u w a.0 b.0 a.1 b.1,
  had_later v.post.machine p x a.0 b.0 (subst (λ (q : Post). Had q.machine p x b.0) (went_post v u a.0 a.1) b.2),
)

pub ruleset going = (goes_self, goes_trans, saw_before, saw_after)
