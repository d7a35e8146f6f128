-- A guest sees no word of a vCPU and no machine-to-physical word of a write, or of an update by address.
use Rattle.std.proofs.Common.{ℕ, false, List, [], ◌∷◌, ◌++◌, Bool, Result, refl, subst, inl, inr, sym}
use Rattle.xp_words.specs.Machine.{Machine}
use Rattle.xp_words.specs.Places.{place_at, sizes_of}
use Rattle.xp_words.specs.declared.place.Place.{Place}
use Rattle.xp_words.specs.declared.place.Place.TheVariants.{Clock, Life}
use Rattle.xp_words.specs.declared.reply.Pause.TheVariants.{Lost}
use Rattle.xp_words.specs.declared.reply.Stop.{Stop}
use Rattle.xp_words.specs.declared.reply.Stop.TheVariants.{Refused, Paused}
use Rattle.xp_board.specs.Lists.{EachOf, Member}
use Rattle.step_maker.specs.Answers.{Deed, Misses, SetsEntry, SetsM2p, SetsWord, Writes, missed, missed_at}
use Rattle.entry_exchange.specs.Asking.{HasExchangeDeeds, IsHidden}
use Rattle.entry_exchange.specs.Asking as asking
use Rattle.entry_exchange.specs.declared.exchanging.EntryUpdate.{EntryUpdate}
use Rattle.foreign_map.specs.declared.owners.Owners.{Owners}
use Rattle.mmu_update.specs.Addresses.{of_at}
use Rattle.mmu_update.specs.Course.{entry_update}
use Rattle.mmu_update.specs.Elements.{HasUpdateDeeds, entered, stopped, stored, update_request}
use Rattle.mmu_update.specs.declared.element.Element.TheVariants.{Write}
use Rattle.solo_ports.specs.Standing.{IsQuiet}
use Rattle.tlb_walks.specs.Addresses.{index_of}

-- a deed on a cell, or an exchange that was lost
abbrev IsSmall : Deed → Type 0
IsSmall (SetsEntry f i old new) = Unit {0}
IsSmall (Writes f i w) = Unit {0}
IsSmall (Misses p) = Unit {0}
IsSmall _ = ⊥

missed_at_small : (p : Place) → EachOf IsSmall (missed_at p)
unfolding EachOf
missed_at_small Clock = tt
missed_at_small (Life d) = tt
missed_at_small _ = (tt, tt)

missed_small : (n : Machine) (e : Stop) → EachOf IsSmall (missed n e)
unfolding EachOf
missed_small n (Paused (Lost place expected found)) = missed_at_small (place_at (sizes_of n) place)
missed_small n (Paused _) = tt
missed_small n (Refused x) = tt

both_small : (xs ys : List Deed) → EachOf IsSmall xs → EachOf IsSmall ys → EachOf IsSmall (xs ++ ys)
unfolding EachOf
both_small [] ys a b = b
both_small (x ∷ xs) ys a b = (a.0, both_small xs ys a.1 b)

hidden_small : (e : Stop) (ds : List Deed) → IsHidden e ds → EachOf IsSmall ds
unfolding EachOf
hidden_small (Paused x) ds (inl none) = subst (EachOf IsSmall) (sym none) tt
hidden_small (Paused x) ds (inr one) = subst (EachOf IsSmall) (sym one.1) (tt, tt)
hidden_small (Refused x) ds none = subst (EachOf IsSmall) (sym none) tt

each_small : (d : Deed) (ds : List Deed) → EachOf IsSmall ds → Member d ds → IsSmall d
unfolding EachOf Member
each_small d [] all m = absurd m
each_small d (x ∷ xs) all (inl is) = subst IsSmall is all.0
each_small d (x ∷ xs) all (inr m) = each_small d xs all.1 m

deeds_small : (n : Machine) (f i w : ℕ) (keep : Bool) (r : Result (Unit {0}) Stop) (ds : List Deed) → HasUpdateDeeds n (Write f i w keep) r ds → EachOf IsSmall ds
unfolding EachOf
deeds_small n f i w keep _ _ (stored _ _ _ _) = (tt, tt)
deeds_small n f i w keep _ _ (entered _ _ _ seen old _) = (tt, tt)
deeds_small n f i w keep _ _ (stopped _ _ _ _ e hidden is) = both_small hidden (missed n e) (hidden_small e hidden is) (missed_small n e)

pub write_quiet : (n : Machine) (s : ℕ) (o : Owners) (f i w : ℕ) (keep : Bool) (r : Result (Unit {0}) Stop) (ds : List Deed) → HasUpdateDeeds n (Write f i w keep) r ds → IsQuiet s (update_request o (Write f i w keep) r) ds
write_quiet n s o f i w keep r ds has =
    let small = deeds_small n f i w keep r ds has in
    record {
      destroys = refl;
      grants = refl;
      pages = refl;
      maps = λ g x m. each_small (SetsM2p g x) ds small m;
      own = λ k x m. each_small (SetsWord s k x) ds small m;
    }

exchange_small : (n : Machine) (t : EntryUpdate) (r : Result (Unit {0}) Stop) (ds : List Deed) → HasExchangeDeeds n t r ds → EachOf IsSmall ds
unfolding EachOf
exchange_small n t _ _ (asking.stored seen old) = (tt, tt)
exchange_small n t _ _ (asking.stopped e hidden is) = both_small hidden (missed n e) (hidden_small e hidden is) (missed_small n e)

pub at_quiet : (n : Machine) (s : ℕ) (o : Owners) (va f w : ℕ) (r : Result (Unit {0}) Stop) (ds : List Deed) → HasExchangeDeeds n (entry_update f 1 (index_of va 1) w false) r ds → IsQuiet s (of_at o va f w r) ds
at_quiet n s o va f w r ds has =
    let small = exchange_small n (entry_update f 1 (index_of va 1) w false) r ds has in
    record {
      destroys = refl;
      grants = refl;
      pages = refl;
      maps = λ g x m. each_small (SetsM2p g x) ds small m;
      own = λ k x m. each_small (SetsWord s k x) ds small m;
    }
