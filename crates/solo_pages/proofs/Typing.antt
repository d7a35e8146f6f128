-- A type of any kind that is asked of a frame of which nothing is unfinished: counted, begun, or refused, on words as on the plain value. (In table_twins for types of levels.)
use Rattle.std.proofs.Common.{◌≡◌, ℕ, ◌<◌, not, Bool, true, false, Some, None, IsTrue, refl, sym, ap, ◌∙◌, subst}
use Rattle.xp_words.specs.KindWords.{kind_fields}
use Rattle.xp_words.specs.Machine.{IsMachine, Machine}
use Rattle.xp_words.specs.PageTypes.{is_none}
use Rattle.xp_words.specs.declared.kind.KindWord.{KindWord}
use Rattle.xp_words.specs.declared.kind.PageType.{PageType}
use Rattle.xp_words.specs.declared.place.Place.TheVariants.{Kind}
use Rattle.xp_words.specs.declared.reply.Refusal.{Refusal}
use Rattle.xp_words.specs.declared.reply.Refusal.TheVariants as refusals
use Rattle.xp_words.specs.declared.reply.Stop.TheVariants.{Refused}
use Rattle.xp_board.specs.KindSteps.{begun_kind, raised_kind}
use Rattle.xp_board.specs.Readings.{is_dead}
use Rattle.step_maker.specs.Plain.{Words}
use Rattle.step_maker.specs.Twins.{Alike}
use Rattle.kind_words.specs.Kinds.{work_kind}
use Rattle.frame_types.specs.Plain.{IsTakenBy, is_read_first, set_kind, stop_by, taken, taken_by, type_stop, work_unmarked}
use Rattle.frame_types.specs.Standing.{standing_of}
use Rattle.frame_types.specs.declared.standing.Standing.{Standing}
use Rattle.frame_types.specs.declared.standing.Standing.TheVariants as stands
use Rattle.frame_types.specs.declared.taking.Taken.TheVariants.{Counted, InWork}
use Rattle.table_law.specs.Alone.{OtherType, fine, refused, take_kind}
use Rattle.table_law.specs.Plain.{Describes, Plain, reference_back, with_kind}
use Rattle.table_twins.specs.Answers.{IsCause}
use Rattle.table_twins.specs.Types.{IsReady, IsReadyBy}
use Rattle.table_twins.proofs.Kinding.{described_alike, kinded}
use Rattle.table_twins.proofs.Typing.{IsCounted, counted_says, counted_takes, dead_says, dead_there, live_sober, other_says, other_takes, raised_sober, work_sober}

-- ---- the plain value by its kind word
module _ (n : Machine) (m : Words) (q : Plain) (g : ℕ) (d : Describes n m q) (inside : g < n.frames) (t : PageType) where
  counted_plainly : IsCounted (kind_fields (m (Kind g))) t → take_kind fine g t q (q.kinds g) ≡ fine (with_kind g (raised_kind (q.kinds g)) q)
  counted_plainly c =
      let k = kind_fields (m (Kind g)) in
      counted_takes n m q g d inside t fine c ∙ ap (λ (j : KindWord). fine (with_kind g (raised_kind j) q)) (sym (d.kinds g inside ∙ live_sober k c.live))

-- ---- of a frame that is ready
module _ (n : Machine) (m w : Words) (q : Plain) (g : ℕ) (t : PageType) (machine : IsMachine n) (d : Describes n m q) (inside : g < n.frames) (ready : IsReady n t (m (Kind g))) (free : type_stop g t (m (Kind g)) ≡ None) (first : is_read_first t ≡ true) (typed : IsTrue (not (is_none t))) where
  abbrev k : KindWord
  k = kind_fields (m (Kind g))

  pub record IsCountedPlain : Type 0 where
    pub dead : is_dead (q.kinds g) ≡ false
    pub takes : take_kind fine g t q (q.kinds g) ≡ fine (with_kind g (raised_kind (q.kinds g)) q)
    pub describes : Describes n w (with_kind g (raised_kind (q.kinds g)) q)

  pub record IsBegunPlain : Type 0 where
    pub dead : is_dead (q.kinds g) ≡ true
    pub describes : Describes n w (with_kind g (work_kind t false 0) q)

  counted_plain : IsCounted k t → k.number < n.limit → Alike w (set_kind g (raised_kind k) m) → IsCountedPlain
  counted_plain c low alike =
      let is : q.kinds g ≡ k = d.kinds g inside ∙ live_sober k c.live in
      record {
        dead = dead_there n m q g d inside t ∙ c.dead;
        takes = counted_plainly n m q g d inside t c;
        describes = subst (λ (j : KindWord). Describes n w (with_kind g (raised_kind j) q)) (sym is)
            (described_alike n w (set_kind g (raised_kind k) m) (with_kind g (raised_kind k) q) alike (kinded n m q g (raised_kind k) (raised_kind k) d (raised_sober k t n.limit ready.0 c low machine.few_counts)));
      }

  counted_at : (s : Standing) → standing_of k t ≡ s → IsReadyBy n k s → stop_by g t (m (Kind g)) s ≡ None → IsTakenBy t k s Counted → Alike w (taken_by g t k s Counted m) → IsCountedPlain
  counted_at stands.Counted so low none by alike = counted_plain (counted_says k t so) low alike
  counted_at stands.Dead so low none by alike = absurd (let e = sym by ∙ first in cc)
  counted_at stands.Partial so low none by alike = absurd low
  counted_at stands.Busy so low none by alike = absurd low
  counted_at stands.Other so low none by alike = absurd (let e = none in cc)

  pub counted_type : IsTakenBy t k (standing_of k t) Counted → Alike w (taken g t Counted m) → IsCountedPlain
  counted_type by alike = counted_at (standing_of k t) refl ready.1 free by alike

  begun_plain : is_dead k ≡ true → Alike w (set_kind g (work_unmarked (begun_kind k t)) m) → IsBegunPlain
  begun_plain dead alike =
      record {
        dead = dead_there n m q g d inside t ∙ dead;
        describes = described_alike n w (set_kind g (work_unmarked (begun_kind k t)) m) (with_kind g (work_kind t false 0) q) alike
            (kinded n m q g (work_unmarked (begun_kind k t)) (work_kind t false 0) d (work_sober k t typed));
      }

  begun_at : (s : Standing) (progress : ℕ) (own : Bool) → standing_of k t ≡ s → IsReadyBy n k s → stop_by g t (m (Kind g)) s ≡ None → IsTakenBy t k s (InWork progress own) → Alike w (taken_by g t k s (InWork progress own) m) → IsBegunPlain
  begun_at stands.Counted progress own so low none by alike = absurd (let e = by in cc)
  begun_at stands.Dead progress own so low none by alike = begun_plain (dead_says k t so) alike
  begun_at stands.Partial progress own so low none by alike = absurd low
  begun_at stands.Busy progress own so low none by alike = absurd low
  begun_at stands.Other progress own so low none by alike = absurd (let e = none in cc)

  pub begun_type : (progress : ℕ) (own : Bool) → IsTakenBy t k (standing_of k t) (InWork progress own) → Alike w (taken g t (InWork progress own) m) → IsBegunPlain
  begun_type progress own by alike = begun_at (standing_of k t) progress own refl ready.1 free by alike

-- ---- or it is refused
pub record IsOtherPlain (g : ℕ) (t : PageType) (q : Plain) (y : Refusal) : Type 0 where
  pub dead : is_dead (q.kinds g) ≡ false
  pub takes : take_kind fine g t q (q.kinds g) ≡ refused (OtherType g t (q.kinds g)) (reference_back g q)
  pub same : IsCause y (OtherType g t (q.kinds g))

module _ (n : Machine) (m : Words) (q : Plain) (g : ℕ) (t : PageType) (d : Describes n m q) (inside : g < n.frames) where
  other_plain : standing_of (kind_fields (m (Kind g))) t ≡ stands.Other → IsOtherPlain g t q (refusals.OtherType g t (m (Kind g)))
  other_plain so =
      let says = other_says (kind_fields (m (Kind g))) t so in
      record { dead = dead_there n m q g d inside t ∙ says.0; takes = other_takes n m q g d inside t fine says.0 says.1; same = (refl, refl, sym (d.kinds g inside)) }

  other_at : (s : Standing) (y : Refusal) → standing_of (kind_fields (m (Kind g))) t ≡ s → stop_by g t (m (Kind g)) s ≡ Some (Refused y) → IsOtherPlain g t q y
  other_at stands.Other y so stop = let e : refusals.OtherType g t (m (Kind g)) ≡ y = cc in subst (λ z. IsOtherPlain g t q z) e (other_plain so)
  other_at stands.Counted y so stop = absurd (let e = stop in cc)
  other_at stands.Dead y so stop = absurd (let e = stop in cc)
  other_at stands.Partial y so stop = absurd (let e = stop in cc)
  other_at stands.Busy y so stop = absurd (let e = stop in cc)

  pub other_type : (y : Refusal) → type_stop g t (m (Kind g)) ≡ Some (Refused y) → IsOtherPlain g t q y
  other_type y stop = other_at (standing_of (kind_fields (m (Kind g))) t) y refl stop
