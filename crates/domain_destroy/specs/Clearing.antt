-- How the marks of a frame of a domain that is destroyed are taken off, and what they held released.
use Rattle.std.specs.Prelude.{◌≡◌, ◌≢◌, ℕ, ◌<◌, Bool, true, false, List, [], Some, None, Result, Ok, Err}
use Rattle.xp_words.specs.KindWords.{kind_fields, kind_write}
use Rattle.xp_words.specs.Places.{number, sizes_of}
use Rattle.xp_words.specs.RefWords.{ref_read, ref_write}
use Rattle.xp_words.specs.declared.kind.KindWord.{KindWord}
use Rattle.xp_words.specs.declared.kind.PageType.TheVariants.{Desc}
use Rattle.xp_words.specs.declared.place.Place.TheVariants.{Kind, Refs}
use Rattle.xp_words.specs.declared.refs.RefWord.TheVariants.{Owned}
use Rattle.xp_words.specs.declared.reply.Pause.TheVariants.{Lost}
use Rattle.xp_words.specs.declared.reply.Stop.{Stop}
use Rattle.xp_words.specs.declared.reply.Stop.TheVariants.{Paused}
use Rattle.xp_board.specs.KindSteps.{resumed_kind}
use Rattle.xp_board.specs.LifeSteps.{is_unallocated}
use Rattle.xp_board.specs.Readings.{owner_of}
use Rattle.xp_board.specs.Told.{PortValue}
use Rattle.xp_board.specs.declared.step.Act.TheVariants.{Cas, Load}
use Rattle.xp_board.specs.declared.step.StepKind.TheVariants as kinds
use Rattle.step_maker.specs.Holds.{Same}
use Rattle.step_maker.specs.Moves.{Moves}
use Rattle.step_maker.specs.Visits.{Does, Then}
use Rattle.frame_words.specs.Freeing.{PutBy, Puts}
use Rattle.frame_types.specs.Found.{Dies}
use Rattle.table_words.specs.Pins.{unpinned_kind}
use Rattle.kept_marks.specs.Marks.{unkept_kind}
use Rattle.domain_destroy.specs.Coming.{IsForeign}
use Rattle.domain_destroy.specs.Emptying.{LetsGo}

-- ---- the marks of the kind word
-- The word without the mark that it has: a pin, or a `kept` mark; a partial descriptor page with that mark comes into work instead, as no old word names one.
pub data Unmarked (k : KindWord) : KindWord → Type 0 where
  unpinned : k.pinned ≡ true → Unmarked k (unpinned_kind k)
  unkept : k.pinned ≡ false → k.kept ≡ true → k.kind ≢ Desc → Unmarked k (unkept_kind k)
  page : k.pinned ≡ false → k.kept ≡ true → k.kind ≡ Desc → Unmarked k (resumed_kind k)

-- The frame was found with that kind word. It had no such mark; or one, which one exchange took off, and its reference is let go, or the page in work is dead; or that exchange found
-- another word.
pub data TakesMarks (f x : ℕ) (u : PortValue) : PortValue → List Bool → Result (Unit {0}) Stop → Type 0 where
  none : (kind_fields x).pinned ≡ false → (kind_fields x).kept ≡ false → TakesMarks f x u u [] (Ok tt)
  unpinned : (a w : PortValue) (answers : List Bool) (answer : Result (Unit {0}) Stop) → (kind_fields x).pinned ≡ true →
      Moves u a (Kind f) (Cas x (kind_write (unpinned_kind (kind_fields x)))) kinds.Kind None x → LetsGo f a w answers answer → TakesMarks f x u w answers answer
  unkept : (a w : PortValue) (answers : List Bool) (answer : Result (Unit {0}) Stop) → (kind_fields x).pinned ≡ false → (kind_fields x).kept ≡ true → (kind_fields x).kind ≢ Desc →
      Moves u a (Kind f) (Cas x (kind_write (unkept_kind (kind_fields x)))) kinds.Kind None x → LetsGo f a w answers answer → TakesMarks f x u w answers answer
  page : (a w : PortValue) → (kind_fields x).pinned ≡ false → (kind_fields x).kept ≡ true → (kind_fields x).kind ≡ Desc →
      Moves u a (Kind f) (Cas x (kind_write (resumed_kind (kind_fields x)))) kinds.Kind None x →
      Does a w (λ vs. Then (Dies f Desc (kind_fields x).unflushed) (PutBy f) vs) → TakesMarks f x u w [] (Ok tt)
  lost : (w : PortValue) (new : KindWord) (found : ℕ) → Unmarked (kind_fields x) new → found ≢ x → Moves u w (Kind f) (Cas x (kind_write new)) kinds.Kind None found →
      TakesMarks f x u w [] (Err (Paused (Lost (number (sizes_of u.post.machine) (Kind f)) x found)))

-- From u to v, with nothing else, the frame's kind word was found so, and then that the frame is the domain's, which is another one.
pub record SawOwn (u v : PortValue) (d f x : ℕ) : Type 0 where
  pub seen : PortValue
  pub word : ℕ
  pub frame : f < u.post.machine.frames
  pub foreign : IsForeign u.post.machine u.post.vcpu d
  pub kind : Moves u seen (Kind f) Load kinds.Look None x
  pub refs : Moves seen v (Refs f) Load kinds.Look None word
  pub owned : owner_of word ≡ Some d
  pub same : Same u v

-- ---- the allocated mark
-- It was not there; or the frame was another domain's by then, and allocated to it; or one exchange took it off, and its reference is given back; or that found another word.
-- `Ok true`: the frame is without it.
pub data GivesMark (d f : ℕ) (u : PortValue) : PortValue → Result Bool Stop → Type 0 where
  none : (w : PortValue) (y : ℕ) → Moves u w (Refs f) Load kinds.Look None y → is_unallocated y ≡ true → GivesMark d f u w (Ok true)
  others : (w : PortValue) (y : ℕ) → Moves u w (Refs f) Load kinds.Look None y → is_unallocated y ≡ false → owner_of y ≢ Some d → GivesMark d f u w (Ok false)
  given : (a b w : PortValue) (y count : ℕ) → Moves u a (Refs f) Load kinds.Look None y → ref_read y ≡ Some (Owned d true count) → Moves a b (Refs f) (Cas y (ref_write (Owned d false count))) kinds.Ref None y →
      Puts b w f → GivesMark d f u w (Ok true)
  lost : (a w : PortValue) (y count found : ℕ) → Moves u a (Refs f) Load kinds.Look None y → ref_read y ≡ Some (Owned d true count) → found ≢ y →
      Moves a w (Refs f) (Cas y (ref_write (Owned d false count))) kinds.Ref None found → GivesMark d f u w (Err (Paused (Lost (number (sizes_of u.post.machine) (Refs f)) y found)))

-- ---- one frame
-- Its kind word is looked at first, and then whose it is: as no frame comes to a domain whose vCPUs are stopped, a mark of that word is one of the domain's.
pub data ClearsFrame (d f : ℕ) (u : PortValue) : PortValue → List Bool → Result Bool Stop → Type 0 where
  others : (a w : PortValue) (x y : ℕ) → Moves u a (Kind f) Load kinds.Look None x → Moves a w (Refs f) Load kinds.Look None y → owner_of y ≢ Some d → ClearsFrame d f u w [] (Ok false)
  marked : (a b w : PortValue) (x y : ℕ) (answers : List Bool) (e : Stop) → Moves u a (Kind f) Load kinds.Look None x → Moves a b (Refs f) Load kinds.Look None y → owner_of y ≡ Some d →
      TakesMarks f x b w answers (Err e) → ClearsFrame d f u w answers (Err e)
  unmarked : (a b c w : PortValue) (x y : ℕ) (answers : List Bool) (answer : Result Bool Stop) → Moves u a (Kind f) Load kinds.Look None x → Moves a b (Refs f) Load kinds.Look None y → owner_of y ≡ Some d →
      TakesMarks f x b c answers (Ok tt) → GivesMark d f c w answer → ClearsFrame d f u w answers answer
