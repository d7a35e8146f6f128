-- What is known of a frame that a vCPU has in its works.
use Rattle.std.proofs.Common.{◌≡◌, ℕ, ◌<◌, true, Some, Bool, false, None, Option, List, IsTrue, refl, sym, ◌∙◌, ap, arith}
use Rattle.xp_words.specs.Machine.{Machine}
use Rattle.xp_words.specs.declared.place.Place.{Place}
use Rattle.xp_words.specs.declared.place.Place.TheVariants.{Kind, Cell}
use Rattle.xp_words.specs.Places.{sizes_of, Sizes}
use Rattle.xp_board.specs.declared.holdings.Work.{Work}
use Rattle.xp_board.specs.declared.holdings.Holdings.{Holdings}
use Rattle.xp_board.specs.Readings.{kind_at}
use Rattle.xp_board.specs.Hands.{works_on, work_on}
use Rattle.xp_board.specs.Found.{WorkFound, is_known_inside, is_same_cell, is_same_entry}
use Rattle.xp_board.specs.WellFormed.{IsWorkFormed, SeenIs}
use Rattle.xp_board.specs.Sound.{Sound, WorkAgrees, is_busy, HeldAlone}
use Rattle.xp_board.proofs.ListCounts.{EachOf-found}
use Rattle.xp_board.proofs.HandLists.{first-some, first-key}
use Rattle.xp_board.proofs.Works.{is_busy-mine, held_mine}
use Rattle.std.proofs.lemmas.Bool.Decides.{nat_tests}
use Rattle.xp_words.specs.declared.kind.KindWord.{KindWord}
use Rattle.xp_words.specs.declared.kind.PageType.{PageType}
use Rattle.xp_words.specs.PageTypes.{is_table}
use Rattle.xp_words.specs.KindWords.{kind_fields}
use Rattle.xp_words.specs.Entries.{demand_at}
use Rattle.xp_board.specs.declared.holdings.Seen.{Seen}
use Rattle.xp_board.specs.declared.holdings.Made.{Made}
use Rattle.xp_board.specs.Steps.{last_since}
use Rattle.xp_board.specs.Recorded.{held, entry_demand}
use Rattle.xp_board.proofs.HeldByForm.{held_table_work}
use Rattle.xp_board.proofs.EntryWords.{entry_asks_same}

-- the work e of vCPU s on frame f
pub record Works (n : Machine) (m : Place → ℕ) (h : ℕ → Holdings) (s f : ℕ) (e : Work) : Type 0 where
  pub frame : e.frame ≡ f
  pub some : 0 < works_on f (h s).works
  pub word : m (Kind f) ≡ e.word
  pub busy : is_busy (kind_at m f) ≡ true
  pub found : WorkFound n m h (h s) e
  pub agrees : WorkAgrees (h s) e
  pub formed : IsWorkFormed n (h s) e

pub works_facts : (n : Machine) (m : Place → ℕ) (h : ℕ → Holdings) (s f : ℕ) (e : Work) → Sound n m h → s < (sizes_of n).vcpus → work_on f (h s).works ≡ Some e → Works n m h s f e
works_facts n m h s f e sound real here =
    let some = first-some (λ y. y.frame) f e (h s).works here in
    let frame = first-key (λ y. y.frame) f e (h s).works here in
    let found = EachOf-found (WorkFound n m h (h s)) (λ y. y.frame) f (h s).works e here ((sound.found s real).works) in
    let agrees = EachOf-found (WorkAgrees (h s)) (λ y. y.frame) f (h s).works e here (sound.works s real) in
    let formed = EachOf-found (IsWorkFormed n (h s)) (λ y. y.frame) f (h s).works e here ((sound.formed s real).works) in
    record {
      frame = frame;
      some = some;
      word = rw (← frame) found.1.word;
      busy = is_busy-mine n m h sound.alone f s real some;
      found = found.1;
      agrees = agrees.1;
      formed = formed.1;
    }

-- ---- a table in the work: the number of its entries, and what they ask
known_inside : (k : KindWord) → k.unflushed ≡ false → is_table k.kind ≡ true → IsTrue (is_known_inside k)
known_inside k u t = grind (arith, nat_tests)

same_cell : (t : PageType) (w x : ℕ) → is_table t ≡ true → IsTrue (is_same_cell t w x) → IsTrue (is_same_entry w x)
same_cell t w x e h = rw e at h

unmarked_by : (t : Bool) (o : Option Seen) (x : Seen) → (t ≡ true → o ≡ None) → o ≡ Some x → t ≡ false
unmarked_by true o x h some = absurd (let none = h refl in cc)
unmarked_by false o x h some = refl

pub seen_is : (z : Sizes) (n f : ℕ) (xs : List Made) (o : Option Seen) (i w : ℕ) → SeenIs z n f xs o → o ≡ Some (record { index = i; word = w }) → last_since z n (Cell f i) xs ≡ Some w
seen_is z n f xs o i w k at = rw at at k

module _ (n : Machine) (m : Place → ℕ) (h : ℕ → Holdings) (s f : ℕ) (e : Work) (k : Works n m h s f e) where
  pub work_word : kind_at m f ≡ kind_fields e.word
  work_word = ap kind_fields k.word

  pub work_held : HeldAlone n m h → s < (sizes_of n).vcpus → work_on f (h s).works ≡ Some e → is_table (kind_fields e.word).kind ≡ true → held (sizes_of n) m h f ≡ e.recorded
  work_held alone real here table = held_mine n m h alone f s e real here ∙ held_table_work (kind_at m f) e.recorded (rw work_word table)

  -- the table is unmarked where an entry was seen
  pub seen_unmarked : (x : Seen) → e.seen ≡ Some x → (kind_fields e.word).unflushed ≡ false
  seen_unmarked x some = unmarked_by (kind_fields e.word).unflushed e.seen x k.formed.marked some

  -- what was last found in a cell of an unmarked table asks what the cell asks
  pub seen_asks : (i w : ℕ) → is_table (kind_fields e.word).kind ≡ true → (kind_fields e.word).unflushed ≡ false →
      last_since (sizes_of n) e.unmarked (Cell e.frame i) (h s).steps ≡ Some w → demand_at (kind_fields e.word).kind i w ≡ entry_demand m f i
  seen_asks i w table unmarked last =
      let same = k.found.cells (known_inside (kind_fields e.word) unmarked table) i w last in
      let asks = entry_asks_same (kind_fields e.word).kind i (m (Cell e.frame i)) w (same_cell (kind_fields e.word).kind (m (Cell e.frame i)) w table same) in
      sym asks ∙ rw (k.frame, k.word) refl

  -- so does the entry that was loaded last
  pub loaded_asks : (i w : ℕ) → is_table (kind_fields e.word).kind ≡ true → e.seen ≡ Some (record { index = i; word = w }) → demand_at (kind_fields e.word).kind i w ≡ entry_demand m f i
  loaded_asks i w table some =
      seen_asks i w table (seen_unmarked (record { index = i; word = w }) some) (seen_is (sizes_of n) e.unmarked e.frame (h s).steps e.seen i w k.formed.seen some)
