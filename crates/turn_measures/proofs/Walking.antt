-- Walks: they change no word of which ranks, old words and lives are read; and one that is paused was hindered.
use Rattle.std.proofs.Common.{◌≡◌, ℕ, Bool, true, false, List, Option, Result, Ok, Err, refl, sym, subst}
use Rattle.xp_words.specs.Machine.{Machine}
use Rattle.xp_words.specs.declared.reply.Pause.{Pause}
use Rattle.xp_words.specs.declared.reply.Pause.TheVariants.{Due, Lost, Busy, Flush, Alive}
use Rattle.xp_words.specs.declared.reply.Stop.{Stop}
use Rattle.xp_words.specs.declared.reply.Stop.TheVariants.{Refused, Paused}
use Rattle.xp_board.specs.Lists.{EachOf}
use Rattle.xp_board.specs.Told.{PortValue, is_telling}
use Rattle.step_maker.specs.Visits.{Does, Only, Visit, Where, visits}
use Rattle.step_maker.proofs.Piecing.{each_append}
use Rattle.frame_claims.proofs.Telling.{Alls, alls_nothing, alls_one, alls_then}
use Rattle.tlb_walks.specs.Addresses.{index_of}
use Rattle.tlb_walks.specs.Translating.{Walks}
use Rattle.tlb_walks.specs.Walks as walking
use Rattle.tlb_walks.specs.Walks.{EndsAt, EntryBy, PathBy, WalkBy, barrier_with, sets_bits, with_needed}
use Rattle.tlb_walks.specs.declared.walks.Walked.{Walked}
use Rattle.vcpu_turn.specs.Unhindered.{IsUnhindered}
use Rattle.vcpu_turn.specs.declared.cpu.TurnEnd.TheVariants as ends
use Rattle.turn_measures.proofs.Asides.{LeavesRanks, Passes, does_passes}
use Rattle.turn_measures.proofs.Pages.{ComesFor}

-- ---- its steps
bits_aside : (b : Bool) (table i w new found : ℕ) → Alls LeavesRanks (Where b (Only (sets_bits table i w new found)))
bits_aside true table i w new found = alls_one LeavesRanks _ refl
bits_aside false table i w new found = alls_nothing LeavesRanks

entry_aside : (table i w new found : ℕ) → Alls LeavesRanks (EntryBy table i w new found)
entry_aside table i w new found = alls_then LeavesRanks _ _ (alls_one LeavesRanks _ refl) (bits_aside _ table i w new found)

path_aside : (n : Machine) (va : ℕ) (write : Bool) (r : Result Walked Stop) (level table : ℕ) (barrier : Option ℕ) (vs : List Visit) → PathBy n va write r level table barrier vs → EachOf LeavesRanks vs
path_aside n va write r _ _ _ _ (walking.PathBy.ends level table barrier vs w found entry over) = entry_aside table _ w _ found vs entry
path_aside n va write r _ _ _ _ (walking.PathBy.goes level table barrier vs first rest w above is entry path all) =
    subst (EachOf LeavesRanks) (sym all) (each_append LeavesRanks first rest (entry_aside table _ w _ w first entry) (path_aside n va write r _ _ _ rest path))

walk_aside : (n : Machine) (s : ℕ) (user : Bool) (va : ℕ) (write : Bool) (r : Result Walked Stop) → Alls LeavesRanks (WalkBy n s user va write r)
walk_aside n s user va write r vs (walking.WalkBy.barred x is answer none) = alls_nothing LeavesRanks vs none
walk_aside n s user va write r vs (walking.WalkBy.baseless is answer one) = alls_one LeavesRanks _ refl vs one
walk_aside n s user va write r vs (walking.WalkBy.walks base is some steps) = alls_then LeavesRanks _ _ (alls_one LeavesRanks _ refl) (λ us path. path_aside n va write r _ _ _ us path) vs steps

pub walked_passes : (v w : PortValue) (user : Bool) (va : ℕ) (write : Bool) (entry : ℕ) → is_telling v ≡ true → Walks v w user va write (Ok entry) → Passes v w
walked_passes v w user va write entry telling a = does_passes v w _ telling (walk_aside v.post.machine v.post.vcpu user va write _) a.1

-- ---- a pause
never_at : (n m : Machine) (table i level : ℕ) (barrier : Option ℕ) (w new found : ℕ) (x : Pause) → EndsAt m table i level barrier w new found (Err (Paused x)) → IsUnhindered n (ends.Paused x) → ⊥
never_at n m table i level barrier w new found (Lost place expected seen) over un = un
never_at n m table i level barrier w new found Due over un = over
never_at n m table i level barrier w new found (Busy f seen) over un = over
never_at n m table i level barrier w new found (Flush vcpu stamp seen) over un = over
never_at n m table i level barrier w new found (Alive vcpu seen) over un = over

path_never : (n m : Machine) (va : ℕ) (write : Bool) (x : Pause) (level table : ℕ) (barrier : Option ℕ) (vs : List Visit) → PathBy m va write (Err (Paused x)) level table barrier vs → IsUnhindered n (ends.Paused x) → ⊥
path_never n m va write x _ _ _ _ (walking.PathBy.ends level table barrier vs w found entry over) un = never_at n m table (index_of va level) level (barrier_with barrier w) w (with_needed write level (barrier_with barrier w) w) found x over un
path_never n m va write x _ _ _ _ (walking.PathBy.goes level table barrier vs first rest w above is entry path all) un = path_never n m va write x _ _ _ rest path un

by_never : (n m : Machine) (s : ℕ) (user : Bool) (va : ℕ) (write : Bool) (x : Pause) (vs : List Visit) → WalkBy m s user va write (Err (Paused x)) vs → IsUnhindered n (ends.Paused x) → ⊥
by_never n m s user va write x vs (walking.WalkBy.barred y is answer none) un = cc
by_never n m s user va write x vs (walking.WalkBy.baseless is answer one) un = cc
by_never n m s user va write x vs (walking.WalkBy.walks base is some steps) un = path_never n m va write x _ _ _ steps.after steps.next un

pub walk_never : (n : Machine) (e : Stop) (v w a : PortValue) (user : Bool) (va : ℕ) (write : Bool) → Does v w (WalkBy v.post.machine v.post.vcpu user va write (Err e)) → ComesFor n e a w
unfolding Does
walk_never n (Refused x) v w a user va write d = tt
walk_never n (Paused x) v w a user va write d = λ un. absurd (by_never n v.post.machine v.post.vcpu user va write x (visits d.0) d.2 un)
