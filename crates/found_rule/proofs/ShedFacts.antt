-- The last recorded entry of a table in work leads where the table may; where it is settled, its frame is live.
use Rattle.std.proofs.Common.{◌≡◌, ℕ, ◌+◌, ◌<◌, IsTrue, sym, ap, ◌∙◌, inl, inr, arith}
use Rattle.xp_words.specs.declared.kind.PageType.{PageType}
use Rattle.xp_words.specs.declared.entry.Demand.TheVariants.{Typed}
use Rattle.xp_words.specs.Entries.{demand_at}
use Rattle.xp_words.specs.KindWords.{kind_fields}
use Rattle.xp_words.specs.Machine.{Machine}
use Rattle.xp_words.specs.declared.place.Place.{Place}
use Rattle.xp_words.specs.declared.place.Place.TheVariants.{Refs}
use Rattle.xp_words.specs.Places.{sizes_of}
use Rattle.xp_board.specs.declared.holdings.Work.{Work}
use Rattle.xp_board.specs.declared.holdings.Holdings.{Holdings}
use Rattle.xp_board.specs.Readings.{kind_at, owner_of}
use Rattle.xp_board.specs.Marks.{MayShed, demand_seen, seen_word}
use Rattle.xp_board.specs.Recorded.{held, entry_demand}
use Rattle.xp_board.specs.Settling.{is_settled}
use Rattle.xp_board.specs.Valid.{EntryPermitted}
use Rattle.xp_board.specs.Sound.{Sound}
use Rattle.xp_board.proofs.WorkFacts.{Works, works_facts, work_held, loaded_asks}
use Rattle.xp_board.proofs.Settled.{nothing_unsettled}
use Rattle.found_rule.proofs.KnownFacts.{IsLiveAs}
use Rattle.xp_board.proofs.KindReadings.{busy_partial}

module _ (n : Machine) (s : ℕ) (m : Place → ℕ) (h : ℕ → Holdings) (l : s < (sizes_of n).vcpus) (sound : Sound n m h) (f upto : ℕ) (e : Work) (may : MayShed f upto (h s) e) where
  k : Works n m h s f e
  k = works_facts n m h s f e sound l may.here

  held_is : held (sizes_of n) m h f ≡ upto + 1
  held_is = work_held n m h s f e k sound.alone l may.here may.table ∙ may.last

  inside : upto < held (sizes_of n) m h f
  inside = let all = held_is in omega arith

  asked_there : (g : ℕ) (t : PageType) → demand_seen upto e ≡ Typed g t → entry_demand m f upto ≡ Typed g t
  asked_there g t seen = sym (loaded_asks n m h s f e k upto may.word may.table may.seen) ∙ sym (ap (λ o. demand_at (kind_fields e.word).kind upto (seen_word o)) may.seen) ∙ seen

  -- the owner of its frame is one that the table's owner may map, by the table's level
  pub shed_permitted : (g : ℕ) (t : PageType) → demand_seen upto e ≡ Typed g t → EntryPermitted m (kind_at m f).kind (owner_of (m (Refs f))) g
  shed_permitted g t seen = sound.permitted.typed f upto g t inside (asked_there g t seen)

  pub shed_live : (g : ℕ) (t : PageType) → IsTrue (is_settled (sizes_of n) (h s) e) → demand_seen upto e ≡ Typed g t → IsLiveAs m g t
  shed_live g t settled seen =
      let asked = asked_there g t seen in
      let kind = sound.counts.kinds.entries f upto g t inside asked in
      elim (sound.valid.live f upto g t inside asked) [
        | inl live ↦ (live, kind)
        | inr more ↦
            elim more.1 [
              | inl last ↦ absurd (busy_partial (kind_at m f) k.busy last.partial)
              | inr u ↦ absurd (nothing_unsettled n m h s f e sound l k may.here may.table settled upto g t asked u)
            ]
      ]
