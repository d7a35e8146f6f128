-- An entry, and a frame, is in the run that it begins.
use Rattle.std.proofs.Common.{◌≡◌, ℕ, Bool, true, false, not, Some, refl, sym, ap, eq-eqb}
use Rattle.xp_words.specs.declared.place.Place.TheVariants.{Cell}
use Rattle.xp_words.specs.Entries.{is_bit}
use Rattle.report_text.specs.Memories.{Memory, word}
use Rattle.machine_draw.specs.declared.tables.Table.{Table}
use Rattle.machine_draw.specs.Frames.{cluster_of, is_drawn_alone, is_in_run}
use Rattle.machine_draw.specs.Pictures.{Picture}
use Rattle.machine_draw.specs.Tables.{is_right, leads}
use Rattle.machine_draw.specs.Targets.{entry_target}

right_itself : (b : Bool) (w : ℕ) → b ≡ is_bit 1 w → is_right b w ≡ true
right_itself true w e = sym e
right_itself false w e = ap not (sym e)

pub leads_itself : (m : Memory) (t : Table) (f : ℕ) (b : Bool) (i w : ℕ) → w ≡ word m (Cell t.frame i) → entry_target t.kind i w ≡ Some f → b ≡ is_bit 1 w → leads m t f b i ≡ true
unfolding leads
leads_itself m t f b i w here named right =
    rw (← here, named, eq-eqb f f refl) (right_itself b w right)

pub in_run_itself : (p : Picture) (c f k : ℕ) (own : Bool) → k ≡ cluster_of p f → k ≡ c → own ≡ is_drawn_alone p f → own ≡ false → is_in_run p c f ≡ true
unfolding is_in_run
in_run_itself p c f k own here same alone failing =
    rw (← here, eq-eqb k c same, ← alone, failing) refl
