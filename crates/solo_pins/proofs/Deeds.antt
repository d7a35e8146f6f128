-- What a guest sees of an element that is about tables or flushes: no machine-to-physical word is set, and no word of a vCPU but a base.
use Rattle.std.proofs.Common.{◌≡◌, ℕ, Bool, true, false, List, [], ◌∷◌, Result, Ok, Err, inl, inr}
use Rattle.xp_words.specs.Machine.{Machine}
use Rattle.xp_words.specs.Places.{place_at, sizes_of}
use Rattle.xp_words.specs.declared.place.Place.{Place}
use Rattle.xp_words.specs.declared.place.Place.TheVariants as places
use Rattle.xp_words.specs.declared.reply.Pause.TheVariants as pauses
use Rattle.xp_words.specs.declared.reply.Stop.{Stop}
use Rattle.xp_words.specs.declared.reply.Stop.TheVariants.{Refused, Paused}
use Rattle.xp_board.specs.Lists.{Member}
use Rattle.step_maker.specs.Answers.{Deed, Forgets, Misses, Pins, SetsM2p, SetsWord, Unpins, missed, missed_at, only_if}
use Rattle.tlb_walks.specs.Addresses.{is_canonical, page_of}
use Rattle.mmuext_ops.specs.Elements.{HasDeeds, copied, ext_deeds, raced_pin, raced_unpin, told}
use Rattle.mmuext_ops.specs.declared.element.Element.{Element}
use Rattle.mmuext_ops.specs.declared.element.Element.TheVariants.{Pin, Unpin, NewBase, NewUserBase, FlushLocal, Invalidate, FlushVcpus, SetLdt, ClearPage, CopyPage, Unknown}
use Rattle.solo_pins.proofs.Standing.{SetsNothing}
use Rattle.solo_pins.specs.Performing.{IsOnTables}

-- ---- lists of one deed
abbrev pub IsOther : Deed → Type 0
IsOther (SetsM2p f w) = ⊥
IsOther (SetsWord v k w) = ⊥
IsOther _ = Unit {0}

nothing : SetsNothing []
unfolding Member
nothing = record { maps = λ g x at. at; own = λ v k x at. at }

no_map : (d : Deed) (g x : ℕ) → IsOther d → d ≡ SetsM2p g x → ⊥
no_map (SetsM2p f w) g x other e = other
no_map _ g x other e = cc

no_word : (d : Deed) (v k x : ℕ) → IsOther d → d ≡ SetsWord v k x → ⊥
no_word (SetsWord t j w) v k x other e = other
no_word _ v k x other e = cc

other_one : (d : Deed) → IsOther d → SetsNothing (d ∷ [])
unfolding Member
other_one d other =
    record {
      maps = λ g x at. elim at [ inl e ↦ no_map d g x other e | inr none ↦ none ];
      own = λ v k x at. elim at [ inl e ↦ no_word d v k x other e | inr none ↦ none ];
    }

other_if : (b : Bool) (d : Deed) → IsOther d → SetsNothing (only_if b d)
other_if true d other = other_one d other
other_if false d other = nothing

-- ---- an exchange that was lost
missed_place : (p : Place) → SetsNothing (missed_at p)
missed_place places.Clock = nothing
missed_place (places.Life d) = nothing
missed_place p = other_one (Misses p) tt

pub missed_nothing : (n : Machine) (e : Stop) → SetsNothing (missed n e)
missed_nothing n (Refused x) = nothing
missed_nothing n (Paused pauses.Due) = nothing
missed_nothing n (Paused (pauses.Lost place expected found)) = missed_place (place_at (sizes_of n) place)
missed_nothing n (Paused (pauses.Busy f found)) = nothing
missed_nothing n (Paused (pauses.Flush u stamp found)) = nothing
missed_nothing n (Paused (pauses.Alive u found)) = nothing

-- ---- elements
-- it sets no word of a vCPU where it is done
abbrev pub SetsNoWord : Element → Type 0
SetsNoWord (NewBase f) = ⊥
SetsNoWord (NewUserBase f) = ⊥
SetsNoWord _ = Unit {0}

told_done : (n : Machine) (s : ℕ) (e : Element) → IsOnTables e → SetsNoWord e → SetsNothing (ext_deeds n s e (Ok tt))
told_done n s (Pin f level) on none = other_one (Pins f) tt
told_done n s (Unpin f) on none = other_one (Unpins f) tt
told_done n s (NewBase f) on none = absurd none
told_done n s (NewUserBase f) on none = absurd none
told_done n s FlushLocal on none = nothing
told_done n s (Invalidate va) on none = other_if (is_canonical va) (Forgets (page_of va)) tt
told_done n s (FlushVcpus mask) on none = nothing
told_done n s (SetLdt address entries) on none = absurd on
told_done n s (ClearPage f) on none = absurd on
told_done n s (CopyPage to from) on none = absurd on
told_done n s Unknown on none = nothing

told_stopped : (n : Machine) (s : ℕ) (e : Element) (x : Stop) → IsOnTables e → SetsNothing (ext_deeds n s e (Err x))
told_stopped n s (Pin f level) x on = missed_nothing n x
told_stopped n s (Unpin f) x on = missed_nothing n x
told_stopped n s (NewBase f) x on = missed_nothing n x
told_stopped n s (NewUserBase f) x on = missed_nothing n x
told_stopped n s FlushLocal x on = missed_nothing n x
told_stopped n s (Invalidate va) x on = missed_nothing n x
told_stopped n s (FlushVcpus mask) x on = missed_nothing n x
told_stopped n s (SetLdt address entries) x on = absurd on
told_stopped n s (ClearPage f) x on = absurd on
told_stopped n s (CopyPage to from) x on = absurd on
told_stopped n s Unknown x on = missed_nothing n x

-- done, or why not: it sets nothing
abbrev pub IsQuiet : Element → Result (Unit {0}) Stop → Type 0
IsQuiet e (Ok done) = SetsNoWord e
IsQuiet e (Err x) = Unit {0}

told_nothing : (n : Machine) (s : ℕ) (e : Element) (answer : Result (Unit {0}) Stop) → IsOnTables e → IsQuiet e answer → SetsNothing (ext_deeds n s e answer)
told_nothing n s e (Ok done) on quiet = told_done n s e on quiet
told_nothing n s e (Err x) on quiet = told_stopped n s e x on

pub sets_nothing : (n : Machine) (s : ℕ) (e : Element) (answer : Result (Unit {0}) Stop) (ds : List Deed) → HasDeeds n s e answer ds → IsOnTables e → IsQuiet e answer → SetsNothing ds
sets_nothing n s _ _ _ (told e answer is) on quiet = told_nothing n s e answer on quiet
sets_nothing n s _ _ _ (copied to from words all) on quiet = absurd on
sets_nothing n s _ _ _ (raced_pin f level found) on quiet = other_one (Misses (places.Kind f)) tt
sets_nothing n s _ _ _ (raced_unpin f found) on quiet = other_one (Misses (places.Kind f)) tt
