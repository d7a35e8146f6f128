-- What an entry of a table under the own lock names is a frame of the machine.
use Rattle.std.proofs.Common.{◌≡◌, ℕ, ◌<◌, true, Some, sym, ap, ◌∙◌, subst, arith}
use Rattle.std.proofs.lemmas.Bool.{and_parts}
use Rattle.xp_words.specs.Entries.{demand_at}
use Rattle.xp_words.specs.Machine.{Machine}
use Rattle.xp_words.specs.Places.{sizes_of}
use Rattle.xp_words.specs.declared.entry.Demand.{Demand}
use Rattle.xp_words.specs.declared.entry.Demand.TheVariants.{Bad, Nothing, Read, Typed}
use Rattle.xp_words.specs.declared.kind.PageType.{PageType}
use Rattle.xp_words.specs.declared.place.Place.{Place}
use Rattle.xp_words.specs.declared.place.Place.TheVariants.{Cell}
use Rattle.xp_board.specs.declared.holdings.Holdings.{Holdings}
use Rattle.xp_board.specs.declared.holdings.Lock.{Lock}
use Rattle.xp_board.specs.Hands.{lock_on}
use Rattle.xp_board.specs.Readings.{kind_at}
use Rattle.xp_board.specs.Recorded.{entry_demand, held, names_typed}
use Rattle.xp_board.specs.Sound.{Sound}
use Rattle.xp_board.specs.Told.{Finds, PortValue}
use Rattle.xp_board.proofs.Counted.{entries-part, held_inside, names_typed-typed, plain_counted, type_below, typed_counted}
use Rattle.xp_board.proofs.KindReadings.{live_count}
use Rattle.xp_board.proofs.LiveTables.{table_held}
use Rattle.xp_board.proofs.LockFacts.{Locks, lock_facts}
use Rattle.xp_board.proofs.KindForms.{table_levels}
use Rattle.table_entries.proofs.LastEntry.{counted_inside}
use Rattle.entry_exchange.specs.Parts.{IsInside, WasInside}

module _ (n : Machine) (m : Place → ℕ) (h : ℕ → Holdings) (s f i : ℕ) (e : Lock) (sound : Sound n m h) (real : s < (sizes_of n).vcpus) (here : lock_on f (h s).locks ≡ Some e) (index : i < 512) where
  facts : Locks n m h s f e
  facts = lock_facts n m h s f e sound real here

  live : (kind_at m f).validated ≡ true
  live = (and_parts (kind_at m f).validated (kind_at m f).locked facts.locked).0

  some : 0 < (kind_at m f).number
  some =
      let count = typed_counted (sizes_of n) m h s f real sound.counts in
      let number = live_count (kind_at m f) live in
      let held = facts.some in
      omega (arith, count, number, held)

  recorded : i < held (sizes_of n) m h f
  recorded =
      let numbers = table_levels (kind_at m f).kind facts.table in
      let all = table_held n m h sound f live some numbers.0 numbers.1 in
      omega (arith, all, index)

  plain : (g : ℕ) → entry_demand m f i ≡ Read g → g < n.frames
  plain g asks = counted_inside n m h g sound (plain_counted n m h f i g sound recorded asks)

  typed : (g : ℕ) (t : PageType) → entry_demand m f i ≡ Typed g t → g < n.frames
  typed g t asks =
      let part = entries-part (names_typed g) (sizes_of n) m h f i (held_inside n m h f i sound.spelled recorded) recorded in
      let one = names_typed-typed g t (entry_demand m f i) asks in
      let all = sound.counts.types g in
      let low = type_below (sizes_of n) m h g sound.counts in
      counted_inside n m h g sound (omega (arith, part, one, all, low))

  inside_by : (d : Demand) → entry_demand m f i ≡ d → IsInside n d
  inside_by Nothing asks = tt
  inside_by Bad asks = tt
  inside_by (Read g) asks = plain g asks
  inside_by (Typed g t) asks = typed g t asks

pub was_inside : (v : PortValue) (f i old : ℕ) → i < 512 → Finds v.post.machine v.post.vcpu v.holdings (Cell f i) old → WasInside v f i old
was_inside v f i old index finds e here =
    let at : lock_on f (finds.hands v.post.vcpu).locks ≡ Some e = subst (λ (h : Holdings). lock_on f h.locks ≡ Some e) (sym finds.mine) here in
    let kind = (lock_facts v.post.machine finds.words finds.hands v.post.vcpu f e finds.sound finds.real at).kind in
    inside_by v.post.machine finds.words finds.hands v.post.vcpu f i e finds.sound finds.real at index (demand_at e.kind i old)
    (ap (λ t. demand_at t i (finds.words (Cell f i))) kind ∙ ap (demand_at e.kind i) finds.word)
