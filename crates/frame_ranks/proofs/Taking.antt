-- A type is taken of a frame: the frame was not in work, and is as far as before, or further.
use Rattle.std.proofs.Common.{◌≡◌, ℕ, ◌+◌, ◌<◌, ◌≤◌, ◌^◌, ◌&&◌, not, if◌then◌else◌, Bool, true, false, None, IsTrue, refl, ap, ◌∙◌, arith}
use Rattle.xp_words.specs.KindWords.{is_kind}
use Rattle.xp_words.specs.declared.kind.KindWord.{KindWord}
use Rattle.xp_words.specs.declared.kind.PageType.{PageType}
use Rattle.xp_words.specs.declared.place.Place.TheVariants.{Kind}
use Rattle.xp_words.specs.declared.reply.Stop.{Stop}
use Rattle.xp_words.proofs.KindLaws.{fields_back as written}
use Rattle.xp_board.specs.KindSteps.{begun_kind, is_stale, raised_kind, resumed_kind}
use Rattle.xp_board.specs.Readings.{is_work, kind_at}
use Rattle.step_maker.specs.Plain.{Words}
use Rattle.step_maker.specs.Twins.{Alike}
use Rattle.kind_words.specs.Kinds.{live_kind, partial_kind}
use Rattle.kind_words.proofs.Leaving.{number_small as small_number}
use Rattle.frame_words.specs.Plain.{put}
use Rattle.frame_types.specs.Plain.{IsTakenBy, less_kept, set_kind, stop_by, taken_by, type_stop, type_waits, waits_by, work_unmarked}
use Rattle.frame_types.specs.Standing.{standing_of}
use Rattle.frame_types.specs.Taking.{progress_of}
use Rattle.frame_types.specs.declared.standing.Standing.{Standing}
use Rattle.frame_types.specs.declared.standing.Standing.TheVariants as stands
use Rattle.frame_types.specs.declared.taking.Taken.TheVariants as types
use Rattle.table_entries.specs.Plain.{left_partial, left_shared}
use Rattle.frame_ranks.specs.Ranks.{rank_at, rank_of}
use Rattle.frame_ranks.proofs.Facing.{Turned, alike_calm, calm_turned, less_calm, put_calm, set_turned, turned_calm}
use Rattle.frame_ranks.proofs.Turning.{Lasts, dead_lasts}
use Rattle.frame_ranks.proofs.Standings.{StandsSo, idle_dead, idle_live, idle_partial, live_small, partial_few, rank_dead, rank_live, rank_waits, rank_within, stands_so}

-- ---- live, or counted once more
pub record TakenLive (m x : Words) (f : ℕ) : Type 0 where
  pub word : KindWord
  pub turned : Turned m x f word
  pub live : word.validated ≡ true
  pub idle : is_work (kind_at m f) ≡ false
  pub more : rank_at m f ≤ rank_of word
  pub lasts : Lasts (kind_at m f) word
  pub higher : (kind_at m f).validated ≡ false → rank_at m f < rank_of word

abbrev pub IsLow : KindWord → Type 0
IsLow k = rank_of k < 515

made_live : (m x : Words) (f : ℕ) (want : PageType) (s : Standing) (c : ℕ) → c < 2 ^ 36 → (kind_at m f).validated ≡ false → is_work (kind_at m f) ≡ false → IsLow (kind_at m f) →
    Alike x (set_kind f (live_kind want c) (less_kept f (kind_at m f) s m)) → TakenLive m x f
made_live m x f want s c small off idle low alike =
    let k = kind_at m f in
    let l = live_kind want c in
    let rank : rank_of l ≡ 515 = rank_live l refl in
    record {
      word = l;
      turned = turned_calm m (set_kind f l (less_kept f k s m)) x f l (calm_turned m (less_kept f k s m) (set_kind f l (less_kept f k s m)) f l (less_calm f k s m) (set_turned f l (less_kept f k s m) (written l small (omega arith)))) (alike_calm _ x alike);
      live = refl;
      idle = idle;
      more = omega arith;
      lasts = dead_lasts k l off;
      higher = λ dead. omega arith;
    }

count_small : (b : Bool) → (if b then 1 else 2) < 2 ^ 36
count_small true = omega arith
count_small false = omega arith

counted_by : (m x : Words) (f : ℕ) (want : PageType) (s : Standing) → IsTrue (is_kind (kind_at m f)) → StandsSo (kind_at m f) s → stop_by f want (m (Kind f)) s ≡ None → Alike x (taken_by f want (kind_at m f) s types.Counted m) → TakenLive m x f
counted_by m x f want stands.Counted is so free alike =
    let k = kind_at m f in
    let l = raised_kind k in
    let small = live_small k is so in
    let a = rank_live k so in
    let b = rank_live l so in
    record {
      word = l;
      turned = turned_calm m (set_kind f l m) x f l (set_turned f l m (written l small.0 small.1)) (alike_calm _ x alike);
      live = so;
      idle = idle_live k so;
      more = omega arith;
      lasts = λ live. (so, omega arith);
      higher = λ dead. absurd cc;
    }
counted_by m x f want stands.Dead is so free alike =
    let k = kind_at m f in
    made_live m x f want stands.Dead 1 (omega arith) so.0 (idle_dead k so.0 so.1 so.2) (let e = rank_dead k so.0 so.1 in omega arith) alike
counted_by m x f want stands.Partial is so free alike =
    let k = kind_at m f in
    made_live m x f want stands.Partial _ (count_small k.kept) so.0 (idle_partial k so.0 so.1) (let e = rank_within k so.0 so.1 in let few = partial_few k is so.0 so.1 in omega arith) alike
counted_by m x f want stands.Busy is so free alike = absurd cc
counted_by m x f want stands.Other is so free alike = absurd cc

-- ---- in work
pub record TakenWork (m x : Words) (f progress : ℕ) : Type 0 where
  pub word : KindWord
  pub turned : Turned m x f word
  pub work : is_work word ≡ true
  pub idle : is_work (kind_at m f) ≡ false
  pub dead : (kind_at m f).validated ≡ false
  pub low : rank_at m f ≤ progress + 2
  pub few : progress ≤ 512

unmarked_by : (b : Bool) (k : KindWord) → is_work (if b then record k { unflushed = false; number = 0 } else k) ≡ is_work k
unmarked_by true k = refl
unmarked_by false k = refl

small_by : (b : Bool) (k : KindWord) → k.number < 2 ^ 36 → (if b then record k { unflushed = false; number = 0 } else k).number < 2 ^ 36
small_by true k small = omega arith
small_by false k small = small

short_by : (b : Bool) (k : KindWord) → k.progress < 2 ^ 10 → (if b then record k { unflushed = false; number = 0 } else k).progress < 2 ^ 10
short_by true k small = small
short_by false k small = small

stored_work : (m x : Words) (f : ℕ) (s : Standing) (l : KindWord) → l.number < 2 ^ 36 → l.progress < 2 ^ 10 → Alike x (set_kind f l (less_kept f (kind_at m f) s m)) → Turned m x f l
stored_work m x f s l small short alike =
    let k = kind_at m f in
    turned_calm m (set_kind f l (less_kept f k s m)) x f l (calm_turned m (less_kept f k s m) (set_kind f l (less_kept f k s m)) f l (less_calm f k s m) (set_turned f l (less_kept f k s m) (written l small short))) (alike_calm _ x alike)

stale_small : (b : Bool) (c : ℕ) → c < 2 ^ 36 → (if b then c else 0) < 2 ^ 36
stale_small true c small = small
stale_small false c small = omega arith

none_recorded : (k : KindWord) → k.partial ≡ false → progress_of k ≡ 0
none_recorded k none = ap (λ b. if b then k.progress else 0) none

some_recorded : (k : KindWord) → k.partial ≡ true → progress_of k ≡ k.progress
some_recorded k some = ap (λ b. if b then k.progress else 0) some

work_by_standing : (m x : Words) (f : ℕ) (want : PageType) (s : Standing) (progress : ℕ) (own : Bool) → IsTrue (is_kind (kind_at m f)) → StandsSo (kind_at m f) s → stop_by f want (m (Kind f)) s ≡ None →
    IsTakenBy want (kind_at m f) s (types.InWork progress own) → Alike x (taken_by f want (kind_at m f) s (types.InWork progress own) m) → TakenWork m x f progress
work_by_standing m x f want stands.Counted progress own is so free way alike = absurd cc
work_by_standing m x f want stands.Dead progress own is so free way alike =
    let k = kind_at m f in
    let l = begun_kind k want in
    let none = way.2 ∙ none_recorded k so.1 in
    record {
      word = work_unmarked l;
      turned = stored_work m x f stands.Dead (work_unmarked l) (small_by l.unflushed l (stale_small (is_stale k want) k.number (small_number (m (Kind f))))) (short_by l.unflushed l (omega arith)) alike;
      work = unmarked_by l.unflushed l;
      idle = idle_dead k so.0 so.1 so.2;
      dead = so.0;
      low = (let e = rank_dead k so.0 so.1 in omega arith);
      few = omega arith;
    }
work_by_standing m x f want stands.Partial progress own is so free way alike =
    let k = kind_at m f in
    let l = resumed_kind k in
    let some = way.2 ∙ some_recorded k so.1 in
    record {
      word = work_unmarked l;
      turned = stored_work m x f stands.Partial (work_unmarked l) (small_by l.unflushed l (small_number (m (Kind f)))) (short_by l.unflushed l (omega arith)) alike;
      work = unmarked_by l.unflushed l ∙ ap (λ b. not b && true) so.0;
      idle = idle_partial k so.0 so.1;
      dead = so.0;
      low = (let e = rank_within k so.0 so.1 in omega arith);
      few = (let few = partial_few k is so.0 so.1 in omega arith);
    }
work_by_standing m x f want stands.Busy progress own is so free way alike = absurd cc
work_by_standing m x f want stands.Other progress own is so free way alike = absurd cc

-- ---- waiting for a flush
pub record TakenWait (m : Words) (f : ℕ) : Type 0 where
  pub idle : is_work (kind_at m f) ≡ false
  pub dead : (kind_at m f).validated ≡ false
  pub low : rank_at m f ≤ 1

waits_so : (k : KindWord) (want : PageType) (s : Standing) → StandsSo k s → waits_by k want s ≡ true → (is_work k ≡ false) × (k.validated ≡ false) × (rank_of k ≤ 1)
waits_so k want stands.Dead so waits = (idle_dead k so.0 so.1 so.2, so.0, (let e = rank_dead k so.0 so.1 in omega arith))
waits_so k want stands.Partial so waits = (idle_partial k so.0 so.1, so.0, (let e = rank_waits k so.0 so.1 waits in omega arith))
waits_so k want stands.Counted so waits = absurd cc
waits_so k want stands.Busy so waits = absurd cc
waits_so k want stands.Other so waits = absurd cc

module _ (m : Words) (f : ℕ) (want : PageType) where
  abbrev stands_at : Standing
  stands_at = standing_of (kind_at m f) want

  pub waits_low : type_waits want (m (Kind f)) ≡ true → TakenWait m f
  waits_low waits = let a = waits_so (kind_at m f) want stands_at (stands_so (kind_at m f) want) waits in record { idle = a.0; dead = a.1; low = a.2 }

  module _ (x : Words) (is : IsTrue (is_kind (kind_at m f))) (free : type_stop f want (m (Kind f)) ≡ None) where
    pub takes_live : Alike x (taken_by f want (kind_at m f) stands_at types.Counted m) → TakenLive m x f
    takes_live alike = counted_by m x f want stands_at is (stands_so (kind_at m f) want) free alike

    pub takes_work : (progress : ℕ) (own : Bool) → IsTakenBy want (kind_at m f) stands_at (types.InWork progress own) → Alike x (taken_by f want (kind_at m f) stands_at (types.InWork progress own) m) → TakenWork m x f progress
    takes_work progress own way alike = work_by_standing m x f want stands_at progress own is (stands_so (kind_at m f) want) free way alike

    -- the frame reads as some word, until it is left
    pub takes_wait : (own : Bool) (stamp : ℕ) (stop : Stop) → IsTakenBy want (kind_at m f) stands_at (types.Waiting own stamp stop) → Alike x (taken_by f want (kind_at m f) stands_at (types.Waiting own stamp stop) m) →
        TakenWait m f × ((l : KindWord) × Turned m x f l)
    takes_wait own stamp stop way alike = by stands_at (stands_so (kind_at m f) want) free way alike
      where
        by : (s : Standing) → StandsSo (kind_at m f) s → stop_by f want (m (Kind f)) s ≡ None → IsTakenBy want (kind_at m f) s (types.Waiting own stamp stop) → Alike x (taken_by f want (kind_at m f) s (types.Waiting own stamp stop) m) →
            TakenWait m f × ((l : KindWord) × Turned m x f l)
        by stands.Counted so free way alike = absurd cc
        by stands.Busy so free way alike = absurd cc
        by stands.Other so free way alike = absurd cc
        by stands.Dead so free way alike =
            let k = kind_at m f in
            let a = waits_so k want stands.Dead so way.0 in
            (record { idle = a.0; dead = a.1; low = a.2 }, (begun_kind k want, stored_work m x f stands.Dead (begun_kind k want) (stale_small (is_stale k want) k.number (small_number (m (Kind f)))) (omega arith) alike))
        by stands.Partial so free way alike =
            let k = kind_at m f in
            let a = waits_so k want stands.Partial so way.0 in
            (record { idle = a.0; dead = a.1; low = a.2 }, (resumed_kind k, stored_work m x f stands.Partial (resumed_kind k) (small_number (m (Kind f))) (omega arith) alike))

  -- left as it waits: partial, and marked
  partial_turned : (s : Standing) (x : Words) → Alike x (set_kind f (partial_kind want false true 0 0) (less_kept f (kind_at m f) s m)) → Turned m x f (partial_kind want false true 0 0)
  partial_turned s x alike = stored_work m x f s (partial_kind want false true 0 0) (omega arith) (omega arith) alike

  pub left_partial_turned : (x : Words) → Alike x (left_partial f want m) → Turned m x f (partial_kind want false true 0 0)
  left_partial_turned x alike = partial_turned stands_at x alike

  pub left_shared_turned : (x : Words) → Alike x (left_shared f want m) → Turned m x f (partial_kind want false true 0 0)
  left_shared_turned x alike =
      let l = partial_kind want false true 0 0 in
      turned_calm m (put f (set_kind f l m)) x f l (turned_calm m (set_kind f l m) (put f (set_kind f l m)) f l (set_turned f l m (written l (omega arith) (omega arith))) (put_calm f (set_kind f l m))) (alike_calm _ x alike)
