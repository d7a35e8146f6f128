-- Each translation leads to a frame of the machine: a walk makes one only where the entry's frame is within it.
use Rattle.std.proofs.Common.{◌≡◌, ℕ, zero, suc, ◌∙◌, ◌<◌, ◌==◌, not, nat_lt, if◌then◌else◌, Bool, true, false, List, [], ◌∷◌, Option, Some, None, refl, sym, ap, subst, arith}
use Rattle.std.proofs.lemmas.Bool.Decides.{nat_tests}
use Rattle.std.specs.Prelude.{take, IfSome}
use Rattle.xp_words.specs.Entries.{is_bit, frame_of}
use Rattle.xp_words.specs.Machine.{Machine}
use Rattle.xp_words.specs.declared.place.Place.{Place}
use Rattle.xp_words.specs.declared.place.Place.TheVariants.{Vcpu, Cell}
use Rattle.xp_words.specs.Places.{sizes_of, place_at}
use Rattle.xp_board.specs.declared.step.Act.{Act}
use Rattle.xp_board.specs.declared.step.Act.TheVariants.{Cas, Store}
use Rattle.xp_board.specs.declared.step.Item.{Item}
use Rattle.xp_board.specs.declared.step.Mark.{Mark}
use Rattle.xp_board.specs.declared.step.Mark.TheVariants as marks
use Rattle.xp_board.specs.declared.step.Step.{Step}
use Rattle.xp_board.specs.declared.step.StepKind.{StepKind}
use Rattle.xp_board.specs.declared.step.StepKind.TheVariants as steps
use Rattle.xp_board.specs.declared.holdings.Holdings.{Holdings}
use Rattle.xp_board.specs.After.{after}
use Rattle.xp_board.specs.Lists.{EachOf, first_of, kept_of}
use Rattle.xp_board.specs.Told.{is_item, cached_item}
use Rattle.own_cache.specs.declared.flight.Flight.{Flight}
use Rattle.own_cache.specs.Frames.{LeadInside}
use Rattle.own_cache.specs.Translating.{Translating, translating, walk_below, seen, with_entry, gone_on, filled, set_bits, entry_touched, touched_in, item_in, ran, marked, acted, translated}
use Rattle.own_cache.proofs.Projecting.{translating_after}

module _ (frames : ℕ) where
  taken : (k : ℕ) (xs : List Item) → LeadInside frames xs → LeadInside frames (take k xs)
  unfolding EachOf
  taken zero [] h = tt
  taken (suc k) [] h = tt
  taken zero (x ∷ xs) h = tt
  taken (suc k) (x ∷ xs) h = (h.0, taken k xs h.1)

  kept : (test : Item → Bool) (xs : List Item) → LeadInside frames xs → LeadInside frames (kept_of test xs)
  unfolding EachOf kept_of
  kept test [] h = tt
  kept test (x ∷ xs) h = kept_by (test x) (kept test xs h.1)
    where
      kept_by : (b : Bool) → LeadInside frames (kept_of test xs) → LeadInside frames (if b then x ∷ kept_of test xs else kept_of test xs)
      kept_by true rest = (h.0, rest)
      kept_by false rest = rest

  either : (b : Bool) (x y : Translating) → (b ≡ true → LeadInside frames x.items) → (b ≡ false → LeadInside frames y.items) → LeadInside frames (if b then x else y).items
  either true x y f g = f refl
  either false x y f g = g refl

  -- ---- what a step makes of them
  passed : (w : ℕ) (b : Bool) → not (nat_lt (frame_of w) frames) ≡ b → b ≡ false → frame_of w < frames
  passed w b e f = let t : not (nat_lt (frame_of w) frames) ≡ false = e ∙ f in grind (arith, nat_tests)

  below_inside : (f : Flight) (w : ℕ) (t : Translating) → LeadInside frames t.items → LeadInside frames (walk_below frames f w t).items
  unfolding EachOf
  below_inside f w t h =
      either (not (nat_lt (frame_of w) frames)) _ _ (λ e. h)
      (λ e. either (f.level == 1) _ _ (λ last. taken 64 (item_in f w ∷ t.items) (passed w false e refl, h)) (λ more. h))

  seen_inside : (f : Flight) (w : ℕ) (t : Translating) → LeadInside frames t.items → LeadInside frames (seen frames f w t).items
  seen_inside f w t h = either (not (is_bit 0 w)) _ _ (λ e. h) (λ e. either (touched_in f w == w) _ _ (λ k. below_inside f w t h) (λ k. h))

  gone_inside : (i w : ℕ) (o : Option Flight) (t : Translating) → LeadInside frames t.items → LeadInside frames (gone_on frames i w o t).items
  gone_inside i w (Some f) t h = seen_inside (with_entry i w f) w t h
  gone_inside i w None t h = h

  filled_inside : (p : Place) (m : Option Mark) (w : ℕ) (t : Translating) → LeadInside frames t.items → LeadInside frames (filled frames p m w t).items
  filled_inside (Vcpu v k) m w t h = either (w == 0) _ _ (λ e. h) (λ e. h)
  filled_inside (Cell f i) m w t h = gone_inside i w t.flight t h
  filled_inside _ m w t h = h

  set_inside : (met : Bool) (new : ℕ) (o : Option Flight) (t : Translating) → LeadInside frames t.items → LeadInside frames (set_bits frames met new o t).items
  set_inside true new (Some f) t h = below_inside f new t h
  set_inside false new (Some f) t h = h
  set_inside met new None t h = h

  touched_inside : (p : Place) (a : Act) (w : ℕ) (t : Translating) → LeadInside frames t.items → LeadInside frames (entry_touched frames p a w t).items
  touched_inside (Cell f i) (Cas e x) w t h = set_inside (w == e) x t.flight t h
  touched_inside _ _ w t h = h

  ran_inside : (a : Act) (t : Translating) → LeadInside frames t.items → LeadInside frames (ran a t).items
  unfolding EachOf
  ran_inside (Store x) t h = either (x == 0) _ _ (λ e. h) (λ e. tt)
  ran_inside _ t h = h

  acted_inside : (p : Place) (a : Act) (k : StepKind) (m : Option Mark) (w : ℕ) (t : Translating) → LeadInside frames t.items → LeadInside frames (acted frames p a k m w t).items
  unfolding EachOf
  acted_inside p a steps.Fill m w t h = filled_inside p m w t h
  acted_inside p a steps.Touch m w t h = touched_inside p a w t h
  acted_inside p a steps.Ack m w t h = tt
  acted_inside p a steps.Run m w t h = ran_inside a t h
  acted_inside p a _ m w t h = h

  marked_inside : (m : Option Mark) (t : Translating) → LeadInside frames t.items → LeadInside frames (marked m t).items
  marked_inside (Some (marks.Forget page)) t h = kept _ t.items h
  marked_inside _ t h = h

  found_inside : (test : Item → Bool) (xs : List Item) → LeadInside frames xs → IfSome (first_of test xs) (λ x. x.frame < frames)
  unfolding EachOf first_of
  found_inside test [] h = tt
  found_inside test (x ∷ xs) h = found_by (test x) (found_inside test xs h.1)
    where
      found_by : (b : Bool) → IfSome (first_of test xs) (λ y. y.frame < frames) → IfSome (if b then Some x else first_of test xs) (λ y. y.frame < frames)
      found_by true rest = h.0
      found_by false rest = rest

-- of a hand
pub after_leads : (n : Machine) (s : ℕ) (h : Holdings) (x : Step) (found : ℕ) → LeadInside n.frames h.cache → LeadInside n.frames (after n s h x found).cache
after_leads n s h x found inside =
    let is : (translated n x found (translating h)).items ≡ (after n s h x found).cache = ap (λ (t : Translating). t.items) (sym (translating_after n s h x found)) in
    subst (λ xs. LeadInside n.frames xs) is
    (acted_inside n.frames (place_at (sizes_of n) x.place) x.act x.kind x.mark found (marked x.mark (translating h)) (marked_inside n.frames x.mark (translating h) inside))

pub cached_leads : (frames : ℕ) (user : Bool) (page : ℕ) (xs : List Item) → LeadInside frames xs → IfSome (cached_item user page xs) (λ x. x.frame < frames)
cached_leads frames user page xs h = found_inside frames (is_item user page) xs h
