-- Whose tables and frames a list of pairs is about is found by loads.
use Rattle.std.proofs.Common.{◌≡◌, ℕ, true, List, Option, Result, refl}
use Rattle.xp_words.specs.Machine.{Machine}
use Rattle.xp_words.specs.declared.reply.Refusal.{Refusal}
use Rattle.xp_board.specs.Lists.{EachOf}
use Rattle.xp_board.specs.Told.{PortValue, is_telling}
use Rattle.step_maker.specs.Visits.{Visit}
use Rattle.step_maker.proofs.Piecing.{each_append}
use Rattle.foreign_map.specs.Owning as owning
use Rattle.foreign_map.specs.Owning.{Admits, FoundOwners, OverOf, OwnersBy}
use Rattle.foreign_map.specs.declared.owners.Owners.{Owners}
use Rattle.turn_measures.proofs.Asides.{LeavesRanks, Passes, does_passes}

admits_aside : (n : Machine) (caller d : ℕ) (o : Option Refusal) (vs : List Visit) → Admits n caller d o vs → EachOf LeavesRanks vs
unfolding EachOf
admits_aside n caller d _ _ (owning.Admits.own is) = tt
admits_aside n caller d _ _ (owning.Admits.missing off past) = tt
admits_aside n caller d _ _ (owning.Admits.barred x off real none) = (refl, tt)
admits_aside n caller d _ _ (owning.Admits.dying x y off real has some) = (refl, (refl, tt))
admits_aside n caller d _ _ (owning.Admits.alive x off real has) = (refl, (refl, tt))

over_aside : (caller tables frames : ℕ) (o : Option Refusal) (vs : List Visit) → OverOf caller tables frames o vs → EachOf LeavesRanks vs
unfolding EachOf
over_aside caller tables frames _ _ (owning.OverOf.same is) = tt
over_aside caller tables frames _ _ (owning.OverOf.of_caller is) = tt
over_aside caller tables frames _ _ (owning.OverOf.forbidden x off apart none) = (refl, tt)
over_aside caller tables frames _ _ (owning.OverOf.allowed x off apart has) = (refl, tt)

owners_aside : (n : Machine) (caller foreign : ℕ) (r : Result Owners Refusal) (vs : List Visit) → OwnersBy n caller foreign r vs → EachOf LeavesRanks vs
unfolding EachOf
owners_aside n caller foreign _ _ (owning.OwnersBy.above many) = tt
owners_aside n caller foreign _ _ (owning.OwnersBy.no_tables x vs few a) = admits_aside n caller _ _ vs a
owners_aside n caller foreign _ _ (owning.OwnersBy.no_frames x vs us few a b) = each_append LeavesRanks vs us (admits_aside n caller _ _ vs a) (admits_aside n caller _ _ us b)
owners_aside n caller foreign _ _ (owning.OwnersBy.apart x vs us ws few a b c) =
    each_append LeavesRanks _ ws (each_append LeavesRanks vs us (admits_aside n caller _ _ vs a) (admits_aside n caller _ _ us b)) (over_aside caller _ _ _ ws c)
owners_aside n caller foreign _ _ (owning.OwnersBy.had vs us ws few a b c) =
    each_append LeavesRanks _ ws (each_append LeavesRanks vs us (admits_aside n caller _ _ vs a) (admits_aside n caller _ _ us b)) (over_aside caller _ _ _ ws c)

pub owners_pass : (v w : PortValue) (caller foreign : ℕ) (r : Result Owners Refusal) → is_telling v ≡ true → FoundOwners v w caller foreign r → Passes v w
owners_pass v w caller foreign r telling found = does_passes v w (λ vs. OwnersBy v.post.machine caller foreign r vs) telling (owners_aside v.post.machine caller foreign r) found
