-- A live table under the lock of an entry: one type count more, and one less again where the lock goes off.
use Rattle.std.proofs.Common.{◌≡◌, ◌≢◌, ℕ, ◌+◌, ◌-◌, ◌<◌, ◌≤◌, ◌^◌, ◌==◌, ◌&&◌, nat_le, nat_lt, not, if◌then◌else◌, Bool, true, false, Option, Some, None, IsTrue, refl, sym, ap, ◌∙◌, subst, inl, inr, arith}
use Rattle.std.proofs.lemmas.Bool.{and_parts, cases_eq}
use Rattle.std.proofs.lemmas.Bool.Decides.{nat_tests}
use Rattle.xp_words.specs.KindWords.{kind_fields, kind_write}
use Rattle.xp_words.specs.Machine.{IsMachine, Machine}
use Rattle.xp_words.specs.PageTypes.{is_table}
use Rattle.xp_words.specs.RefWords.{ref_read}
use Rattle.xp_words.specs.declared.kind.KindWord.{KindWord}
use Rattle.xp_words.specs.declared.place.Place.{Place}
use Rattle.xp_words.specs.declared.place.Place.TheVariants.{Kind, Life}
use Rattle.xp_words.specs.declared.refs.RefWord.{RefWord}
use Rattle.xp_words.specs.declared.refs.RefWord.TheVariants.{Dying, Free, Owned}
use Rattle.xp_words.specs.declared.reply.Pause.{Pause}
use Rattle.xp_words.specs.declared.reply.Refusal.TheVariants as refusals
use Rattle.xp_board.specs.KindSteps.{locked_kind}
use Rattle.xp_board.specs.Readings.{count_in, kind_at, ref_count}
use Rattle.xp_board.proofs.StepLists.{from_lt as is_inside}
use Rattle.step_maker.specs.Plain.{Words}
use Rattle.frame_words.specs.Plain.{refer, refer_by}
use Rattle.entry_locks.specs.Locks.{is_lockable}
use Rattle.entry_locks.specs.Plain.{with_lock}
use Rattle.entry_locks.proofs.LockWriting.{locked_is}
use Rattle.kind_words.proofs.KindWriting.{fields_write}
use Rattle.table_twins.proofs.Referring.{not_full}
use Rattle.table_words.specs.OldWords.{old_place}
use Rattle.course_laws.specs.Courses.{IsOrderly}
use Rattle.frame_ranks.specs.Ranks.{AreAllAlive, GetsFurther, GoesForward, rank_at, rank_of}
use Rattle.frame_ranks.proofs.Standings.{rank_live}
use Rattle.turn_measures.proofs.Forward.{Comes, is_ranked, old_ranked}
use Rattle.turn_measures.proofs.Storing.{set_here, set_there}

-- ---- a reference to the frame was to be had
room_if : (b k : Bool) (limit c f w : ℕ) → (k ≡ false → c < limit) → (if b then (if k then Some (refusals.CountFull f w) else None) else Some (refusals.WrongOwner f w)) ≡ None → c < limit
room_if true false limit c f w room none = room refl
room_if true true limit c f w room none = absurd cc
room_if false k limit c f w room none = absurd cc

room_by : (limit owner f w : ℕ) (r : Option RefWord) → refer_by limit owner f w r ≡ None → count_in r < limit
room_by limit owner f w (Some (Owned o a c)) none = room_if (o == owner) (nat_le limit c) limit c f w (λ full. not_full limit c full) none
room_by limit owner f w (Some (Free stamp)) none = absurd cc
room_by limit owner f w (Some (Dying o)) none = absurd cc
room_by limit owner f w None none = absurd cc

pub record HasRoom (n : Machine) (f w : ℕ) : Type 0 where
  pub inside : f < n.frames
  pub room : ref_count w < n.limit

has_room : (n : Machine) (owner f w : ℕ) (b : Bool) → nat_lt f n.frames ≡ b → (if b then refer_by n.limit owner f w (ref_read w) else Some (refusals.NoFrame f)) ≡ None → HasRoom n f w
unfolding ref_count
has_room n owner f w true is none = record { inside = is_inside f n.frames is; room = room_by n.limit owner f w (ref_read w) none }
has_room n owner f w false is none = absurd cc

pub refers_room : (n : Machine) (owner f w : ℕ) → refer n owner f w ≡ None → HasRoom n f w
refers_room n owner f w none = has_room n owner f w (nat_lt f n.frames) refl none

-- ---- the lock
-- from the words m to x the lock went on
pub record IsLocked (m x : Words) (f : ℕ) : Type 0 where
  pub live : (kind_at m f).validated ≡ true
  pub some : 0 < (kind_at m f).number
  pub kind : kind_at x f ≡ locked_kind (kind_at m f)
  pub there : (q : Place) → is_ranked q ≡ true → q ≢ Kind f → x q ≡ m q

pub locks_on : (n : Machine) (m : Words) (f owner w : ℕ) → IsMachine n → IsTrue (is_lockable (kind_at m f)) → (f < n.frames → IsOrderly n m) → (f < n.frames → (kind_at m f).validated ≡ true → (kind_at m f).number ≤ ref_count w) → refer n owner f w ≡ None → IsLocked m (with_lock f m) f
locks_on n m f owner w machine free orderly most none =
    let k : KindWord = kind_at m f in
    let a = and_parts (is_table k.kind && k.validated) (not k.locked && nat_lt 0 k.number) free in
    let b = and_parts (is_table k.kind) k.validated a.0 in
    let c = and_parts (not k.locked) (nat_lt 0 k.number) a.1 in
    let some : 0 < k.number = (let d = c.1 in grind (arith, nat_tests)) in
    let r = refers_room n owner f w none in
    let few : k.number + 1 < 2 ^ 26 = (let room = r.room in let limit = machine.few_counts in let counted = most r.inside b.1 in omega (arith, room, limit, counted)) in
    let is = locked_is k ((orderly r.inside).spelled f r.inside) b.1 b.0 some few in
    record {
      live = b.1;
      some = some;
      kind = ap kind_fields (set_here f (locked_kind k) m) ∙ fields_write (locked_kind k) is;
      there = λ q ranked off. set_there f (kind_write (locked_kind k)) m q off;
    }

-- from z to y it went off, with its type count
pub record IsUnlocked (z y : Words) (f : ℕ) : Type 0 where
  pub kind : kind_at y f ≡ record (kind_at z f) { number = (kind_at z f).number - 1; locked = false }
  pub there : (q : Place) → is_ranked q ≡ true → q ≢ Kind f → y q ≡ z q

same_at : (x y : Words) (g : ℕ) → x (Kind g) ≡ y (Kind g) → kind_at x g ≡ kind_at y g
same_at x y g e = ap kind_fields e

kind_apart : (g f : ℕ) → g ≢ f → Kind g ≢ Kind f
kind_apart g f off e = off cc

module _ (n : Machine) (m x : Words) (f : ℕ) (l : IsLocked m x f) where
  off_at : (g : ℕ) → g ≢ f → kind_at x g ≡ kind_at m g
  off_at g off = same_at x m g (l.there (Kind g) refl (kind_apart g f off))

  locked_live : (kind_at x f).validated ≡ true
  locked_live = ap (λ (k : KindWord). k.validated) l.kind ∙ l.live

  pub locked_alive : AreAllAlive n m → AreAllAlive n x
  locked_alive alive d real = let apart : Life d ≢ Kind f = λ e. cc in l.there (Life d) refl apart ∙ alive d real

  module _ (z y : Words) (inside : f < n.frames) (a : GoesForward n x z) where
    -- it was not the last one
    pub several : 2 ≤ (kind_at z f).number
    several = let c = (a.counts f inside locked_live).1 in let e = ap (λ (k : KindWord). k.number) l.kind in let some = l.some in omega (arith, c, e, some)

    module _ (o : IsUnlocked z y f) where
      gone_at : (g : ℕ) → g ≢ f → kind_at y g ≡ kind_at z g
      gone_at g off = same_at y z g (o.there (Kind g) refl (kind_apart g f off))

      live_still : (kind_at z f).validated ≡ true
      live_still = (a.counts f inside locked_live).0

      live_again : (kind_at y f).validated ≡ true
      live_again = ap (λ (k : KindWord). k.validated) o.kind ∙ live_still

      ranks : (g : ℕ) → g < n.frames → rank_at m g ≤ rank_at y g
      ranks g real =
          elim (cases_eq g f) [
            | inl at ↦ subst (λ h. rank_at m h ≤ rank_at y h) (sym at) (let c = rank_live (kind_at m f) l.live in let d = rank_live (kind_at y f) live_again in omega (arith, c, d))
            | inr off ↦ let c = a.ranks g real in let d = ap rank_of (off_at g off) in let e = ap rank_of (gone_at g off) in omega (arith, c, d, e)
          ]

      counts_here : (kind_at m f).number ≤ (kind_at y f).number
      counts_here =
          let c = (a.counts f inside locked_live).1 in
          let d = ap (λ (k : KindWord). k.number) l.kind in
          let e = ap (λ (k : KindWord). k.number) o.kind in
          omega (arith, c, d, e)

      counts : (g : ℕ) → g < n.frames → (kind_at m g).validated ≡ true → ((kind_at y g).validated ≡ true) × ((kind_at m g).number ≤ (kind_at y g).number)
      counts g real live =
          elim (cases_eq g f) [
            | inl at ↦ subst (λ h. ((kind_at y h).validated ≡ true) × ((kind_at m h).number ≤ (kind_at y h).number)) (sym at) (live_again, counts_here)
            | inr off ↦
                let c = a.counts g real (ap (λ (k : KindWord). k.validated) (off_at g off) ∙ live) in
                let d = ap (λ (k : KindWord). k.number) (off_at g off) in
                let e = ap (λ (k : KindWord). k.number) (gone_at g off) in
                let h = c.1 in
                (ap (λ (k : KindWord). k.validated) (gone_at g off) ∙ c.0, omega (arith, h, d, e))
          ]

      locked_forward : GoesForward n m y
      locked_forward =
          record {
            ranks = ranks;
            counts = counts;
            olds = λ t which. let apart : old_place t which ≢ Kind f = λ e. cc in o.there (old_place t which) (old_ranked t which) apart ∙ a.olds t which ∙ l.there (old_place t which) (old_ranked t which) apart;
          }

      -- the frame that got further is another one
      further_off : GetsFurther n x z → GetsFurther n m y
      further_off b =
          elim (cases_eq b.frame f) [
            | inl at ↦
                absurd
                (let h : rank_at x f < rank_at z f = subst (λ g. rank_at x g < rank_at z g) at b.higher in
                let c = rank_live (kind_at x f) locked_live in
                let d = rank_live (kind_at z f) live_still in
                omega (arith, h, c, d))
            | inr off ↦ record { frame = b.frame; real = b.real; higher = let c = b.higher in let d = ap rank_of (off_at b.frame off) in let e = ap rank_of (gone_at b.frame off) in omega (arith, c, d, e) }
          ]

  pub comes_locked : (p : Pause) (z y : Words) → f < n.frames → Comes n p x z → IsUnlocked z y f → Comes n p m y
  comes_locked p z y inside c o = record { forward = locked_forward z y inside c.forward o; further = λ due. further_off z y inside c.forward o (c.further due) }
