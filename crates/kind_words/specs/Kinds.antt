-- Kind words, and what the steps on them leave in hand.
use Rattle.std.specs.Prelude.{◌≡◌, ℕ, Bool, true, false, Some, IsTrue}
use Rattle.xp_words.specs.Machine.{Machine}
use Rattle.xp_words.specs.Places.{sizes_of}
use Rattle.xp_words.specs.KindWords.{is_kind, kind_fields, kind_write}
use Rattle.xp_words.specs.PageTypes.{is_table}
use Rattle.xp_words.specs.declared.kind.PageType.TheVariants.{Desc}
use Rattle.xp_board.specs.Flushes.{IsPastFlush}
use Rattle.xp_board.specs.Readings.{is_work}
use Rattle.xp_board.specs.Settling.{is_settled}
use Rattle.xp_words.specs.declared.kind.KindWord.{KindWord}
use Rattle.xp_words.specs.declared.kind.PageType.{PageType}
use Rattle.xp_board.specs.declared.holdings.Holdings.{Holdings}
use Rattle.xp_board.specs.declared.holdings.Work.{Work}
use Rattle.xp_board.specs.Hands.{work_on}
use Rattle.xp_board.specs.KindSteps.{AllowsForm, form_of, begun_kind, raised_kind, resumed_kind, counted, begun, resumed, still_looking, after_kind_store}
use Rattle.xp_board.specs.Spelling.{is_kind_in}
use Rattle.xp_board.specs.Told.{PortValue}

-- an exchange found that word at frame f, or left it there: the vCPU looks at no other
abbrev pub looked_at : ℕ → ℕ → Holdings → Holdings
looked_at f w h = record h { looking = still_looking f w h.looking }

-- an untyped reference became a typed one, known live
abbrev pub counted_type : ℕ → KindWord → Holdings → Holdings
counted_type f k h = counted f k (looked_at f (kind_write (raised_kind k)) h)

-- an untyped reference became the type count of a frame in work for that type
abbrev pub begun_work : ℕ → KindWord → PageType → Holdings → Holdings
begun_work f k want h = begun f (begun_kind k want) (kind_write (begun_kind k want)) (looked_at f (kind_write (begun_kind k want)) h)

-- a frame in the own works may be left with that word
pub record MayLeave (v : PortValue) (f : ℕ) (l : KindWord) : Type 0 where
  pub is : IsTrue (is_kind l)
  pub fits : IsTrue (is_kind_in v.post.machine (Some l))
  pub work : Work
  pub here : work_on f v.holdings.works ≡ Some work
  pub may : AllowsForm (form_of l) v.post.machine f work l v.holdings

-- the hand after that
abbrev pub left : PortValue → ℕ → KindWord → Holdings
left v f l = after_kind_store v.post.machine v.post.vcpu f (kind_write l) (work_on f v.holdings.works) v.holdings

-- a frame came into work again; with a `kept` mark its reference came into the hand
abbrev pub resumed_work : ℕ → KindWord → Holdings → Holdings
resumed_work f k h = resumed f k (kind_write (resumed_kind k)) (looked_at f (kind_write (resumed_kind k)) h)

-- ---- words that may be left
-- live with that type and so many type counts, with no mark
abbrev pub live_kind : PageType → ℕ → KindWord
live_kind kind number =
    record {
      kind = kind;
      pinned = false;
      validated = true;
      partial = false;
      locked = false;
      kept = false;
      unflushed = false;
      progress = 0;
      number = number;
    }

-- in work for that type, marked with that stamp, or not marked and 0
abbrev pub work_kind : PageType → Bool → ℕ → KindWord
work_kind want unflushed number =
    record {
      kind = want;
      pinned = false;
      validated = false;
      partial = false;
      locked = true;
      kept = false;
      unflushed = unflushed;
      progress = 0;
      number = number;
    }

-- partial, with so many entries recorded; marked with that stamp, or not marked and 0
abbrev pub partial_kind : PageType → Bool → Bool → ℕ → ℕ → KindWord
partial_kind kind kept unflushed progress number =
    record {
      kind = kind;
      pinned = false;
      validated = false;
      partial = true;
      locked = false;
      kept = kept;
      unflushed = unflushed;
      progress = progress;
      number = number;
    }

-- in work as before, without the mark
abbrev pub unmarked_kind : KindWord → KindWord
unmarked_kind k = record k { unflushed = false; number = 0 }

-- dead, of that type, with a stamp
abbrev pub dead_kind : PageType → Bool → ℕ → KindWord
dead_kind kind unflushed stamp =
    record {
      kind = kind;
      pinned = false;
      validated = false;
      partial = false;
      locked = false;
      kept = false;
      unflushed = unflushed;
      progress = 0;
      number = stamp;
    }

-- all of a frame in the own work for that type is validated, and flushed where it was marked
pub record IsWholeWork (n : Machine) (f : ℕ) (want : PageType) (h : Holdings) (e : Work) : Type 0 where
  pub work : IsTrue (is_work (kind_fields e.word))
  pub kind : (kind_fields e.word).kind ≡ want
  pub past : (kind_fields e.word).unflushed ≡ true → IsPastFlush n h e
  pub table : IsTrue (is_table want) → (e.recorded ≡ 512) × IsTrue (is_settled (sizes_of n) h e)
  pub descriptors : want ≡ Desc → e.fixed ≡ 512
