-- What walks and accesses leave in hand: translations.
use Rattle.std.specs.Prelude.{ℕ, ◌<◌, ◌&&◌, ◌||◌, not, is_some, Bool, Option, Result, Ok, Err}
use Rattle.xp_words.specs.Entries.{is_bit, frame_of}
use Rattle.xp_words.specs.declared.reply.Stop.{Stop}
use Rattle.xp_board.specs.declared.step.Item.{Item}
use Rattle.xp_board.specs.FillSteps.{cached_with}
use Rattle.xp_board.specs.Told.{PortValue}
use Rattle.step_maker.specs.Holds.{Holds, Same}
use Rattle.step_maker.specs.Visits.{Does}
use Rattle.tlb_walks.specs.Addresses.{page_of}
use Rattle.tlb_walks.specs.Walks.{WalkBy}
use Rattle.tlb_walks.specs.declared.walks.Walked.{Walked}

-- The translation that a walk brings: writable where no entry bars it, dirty where bit 6 of the last was found or set.
abbrev pub item_by : Bool → ℕ → Bool → Walked → Item
item_by user va write r =
    record {
      user = user;
      page = page_of va;
      frame = frame_of r.entry;
      writable = not (is_some r.barrier);
      dirty = is_bit 6 r.entry || (write && not (is_some r.barrier));
    }

-- it stands first, and all else in hand is as before
pub record WalkedTo (v w : PortValue) (user : Bool) (va : ℕ) (write : Bool) (r : Walked) : Type 0 where
  pub inside : frame_of r.entry < v.post.machine.frames
  pub hand : Holds v w (record v.holdings { cache = cached_with (item_by user va write r) v.holdings.cache })

-- ---- a walk by itself, whose answer is the last entry
-- by these steps it found that entry and barrier, and their translation stands first; or by these steps it stopped, and all in hand is as before
abbrev pub Walks : PortValue → PortValue → Bool → ℕ → Bool → Result ℕ Stop → Type 0
Walks v w user va write (Ok entry) =
    (barrier : Option ℕ) × Does v w (WalkBy v.post.machine v.post.vcpu user va write (Ok (record { entry = entry; barrier = barrier })))
    × WalkedTo v w user va write (record { entry = entry; barrier = barrier })
Walks v w user va write (Err e) = Does v w (WalkBy v.post.machine v.post.vcpu user va write (Err e)) × Same v w
