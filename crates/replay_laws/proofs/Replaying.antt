-- What a list of visits leaves, from the words told before it and from its acts alone.
use Rattle.std.proofs.Common.{◌≡◌, true, List, [], ◌∷◌, ◌++◌, refl, sym, ap, ◌∙◌, subst}
use Rattle.xp_board.specs.declared.step.Act.TheVariants.{Load}
use Rattle.xp_board.specs.Told.{PortValue, is_telling, told_word}
use Rattle.step_maker.specs.Moves.{Moment, Ran}
use Rattle.step_maker.specs.Plain.{Words, change}
use Rattle.step_maker.specs.Visits.{Visit, visits, Does, Nothing, Only, Then}
use Rattle.step_maker.proofs.Telling.{changed, leaves, load_leaves, ran_telling, told_there}
use Rattle.replay_laws.specs.Replays.{SameWords, Replays, left_behind, FindsEach, ReplaysAs}

-- ---- a port that tells all words
pub ran_replays : (v w : PortValue) (ms : List Moment) → is_telling v ≡ true → Ran v ms w → Replays (told_word v) (visits ms) (told_word w)
ran_replays v w [] telling ran = λ q. ap (λ (y : PortValue). told_word y q) ran
ran_replays v w (m ∷ ms) telling ran =
    let u = ran.0 in
    let tells : is_telling u ≡ true = ran_telling v u ms ran.1 ∙ telling in (
      told_word u,
      ran_replays v u ms telling ran.1,
      told_there u w m.place m.act m.kind m.mark m.found ran.2.moves tells,
      leaves u w m.place m.act m.kind m.mark m.found ran.2.moves tells,
    )

pub does_replays : (v w : PortValue) (P : List Visit → Type 0) → is_telling v ≡ true → Does v w P → ReplaysAs (told_word v) P (told_word w)
unfolding Does
does_replays v w P telling does = record { list = visits does.0; like = does.2; replays = ran_replays v w does.0 telling does.1 }

-- ---- the words behind are a function of the list
pub replays_left : (m w : Words) (vs : List Visit) → Replays m vs w → SameWords (left_behind vs m) w
replays_left m w [] a = a
replays_left m w (x ∷ xs) a = λ q. a.3 q ∙ changed x.act x.place a.0 (left_behind xs m) (replays_left m a.0 xs a.1) q

pub replays_found : (m w : Words) (vs : List Visit) → Replays m vs w → FindsEach m vs
replays_found m w [] a = tt
replays_found m w (x ∷ xs) a = (replays_found m a.0 xs a.1, sym (replays_left m a.0 xs a.1 x.place) ∙ a.2)

pub found_replays : (m w : Words) (vs : List Visit) → FindsEach m vs → SameWords (left_behind vs m) w → Replays m vs w
found_replays m w [] finds same = same
found_replays m w (x ∷ xs) finds same = (left_behind xs m, found_replays m (left_behind xs m) xs finds.0 (λ q. refl), finds.1, same)

pub one_end : (m a b : Words) (vs : List Visit) → Replays m vs a → Replays m vs b → SameWords a b
one_end m a b vs x y q = replays_left m b vs y q ∙ sym (replays_left m a vs x q)

-- ---- parts of a list
replays_to : (m u w : Words) (vs : List Visit) → Replays m vs u → SameWords u w → Replays m vs w
replays_to m u w [] a same = λ q. same q ∙ a q
replays_to m u w (x ∷ xs) a same = (a.0, a.1, a.2, λ q. same q ∙ a.3 q)

pub replays_apart : (m w : Words) (before after : List Visit) → Replays m (after ++ before) w → (u : Words) × Replays m before u × Replays u after w
replays_apart m w before [] a = (w, a, λ q. refl)
replays_apart m w before (x ∷ xs) a = let k = replays_apart m a.0 before xs a.1 in (k.0, k.1, (a.0, k.2, a.2, a.3))

pub replays_more : (m u w : Words) (before after : List Visit) → Replays m before u → Replays u after w → Replays m (after ++ before) w
replays_more m u w before [] a b = replays_to m u w before a b
replays_more m u w before (x ∷ xs) a b = (b.0, replays_more m u b.0 before xs a b.1, b.2, b.3)

pub as_then : (m w : Words) (P Q : List Visit → Type 0) → ReplaysAs m (Then P Q) w → (u : Words) × ReplaysAs m P u × ReplaysAs u Q w
as_then m w P Q a =
    let k = replays_apart m w a.like.before a.like.after (subst (λ vs. Replays m vs w) a.like.list a.replays) in
    (k.0, record { list = a.like.before; like = a.like.first; replays = k.1 }, record { list = a.like.after; like = a.like.next; replays = k.2 })

pub as_only : (m w : Words) (x : Visit) → ReplaysAs m (Only x) w → (m x.place ≡ x.found) × SameWords (change x.act x.place m) w
as_only m w x a =
    let k = subst (λ vs. Replays m vs w) a.like a.replays in
    (sym (k.1 x.place) ∙ k.2, λ q. k.3 q ∙ changed x.act x.place k.0 m k.1 q)

pub as_nothing : (m w : Words) → ReplaysAs m Nothing w → SameWords m w
as_nothing m w a = subst (λ vs. Replays m vs w) a.like a.replays

-- ---- looks
pub look_leaves : (m : Words) (x : Visit) → x.act ≡ Load → SameWords m (change x.act x.place m)
look_leaves m x is q = subst (λ a. change a x.place m q ≡ m q) (sym is) (load_leaves x.place m q)
