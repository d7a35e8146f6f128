-- What the words say that a plain value describes.
use Rattle.std.proofs.Common.{◌≡◌, ℕ, ◌<◌, ◌≤◌, Bool, true, false, if◌then◌else◌, Option, Some, None, refl, sym, ap, ◌∙◌, arith}
use Rattle.xp_words.specs.declared.kind.KindWord.{KindWord}
use Rattle.xp_words.specs.declared.refs.RefWord.{RefWord}
use Rattle.xp_words.specs.declared.refs.RefWord.TheVariants.{Free, Owned, Dying}
use Rattle.xp_words.specs.RefWords.{ref_read, IsRef}
use Rattle.xp_words.proofs.RefLaws.{ref_write-read}
use Rattle.xp_board.specs.Readings.{is_dead, owner_of, ref_count, count_in}
use Rattle.xp_board.proofs.RefWords.{owned_says, dying_says, free_says, read_small}
use Rattle.table_law.specs.Plain.{Share, share_in, share_of, sober}
use Rattle.table_law.specs.Lawful.{IsShareOf, share_count}

-- ---- reference words
-- an owned frame: its owner and count
pub record OwnsWord (w : ℕ) (s : Share) : Type 0 where
  pub owned : owner_of w ≡ Some s.owner
  pub count : ref_count w ≡ s.count
  pub some : 0 < s.count

some_count : (w o c : ℕ) (a : Bool) → ref_read w ≡ Some (Owned o a c) → 0 < c
unfolding IsRef
some_count w o c a e = (ref_write-read w (Owned o a c) (read_small w (Owned o a c) e) e).0.1

owns_by : (w : ℕ) (r : Option RefWord) (s : Share) → ref_read w ≡ r → share_in r ≡ Some s → OwnsWord w s
owns_by w (Some (Owned o a c)) s e is =
    let same : record { owner = o; allocated = a; count = c } ≡ s = cc in
    let says = owned_says w o a c e in
    record { owned = says.owned ∙ ap (λ (x : Share). Some x.owner) same; count = says.counts ∙ ap (λ (x : Share). x.count) same; some = (let n = some_count w o c a e in let k = ap (λ (x : Share). x.count) same in omega arith) }
owns_by w (Some (Free stamp)) s e is = absurd (cc)
owns_by w (Some (Dying o)) s e is = absurd (cc)
owns_by w None s e is = absurd (cc)

pub owns_word : (w : ℕ) (s : Share) → share_of w ≡ Some s → OwnsWord w s
owns_word w s is = owns_by w (ref_read w) s refl is

-- any other counts nothing
none_by : (w : ℕ) (r : Option RefWord) (o : ℕ) → ref_read w ≡ r → owner_of w ≡ Some o → share_in r ≡ None → ref_count w ≡ 0
unfolding ref_count
none_by w (Some (Owned o a c)) d e own is = absurd (cc)
none_by w (Some (Free stamp)) d e own is = (free_says w stamp e).counts
none_by w (Some (Dying o)) d e own is = (dying_says w o e).counts
none_by w None d e own is = ap count_in e

pub none_counted : (w o : ℕ) → owner_of w ≡ Some o → share_of w ≡ None → ref_count w ≡ 0
none_counted w o own is = none_by w (ref_read w) o refl own is

-- so no count is above what the word counts
most_by : (w : ℕ) (o : Option Share) → share_of w ≡ o → share_count o ≤ ref_count w
most_by w None is = omega arith
most_by w (Some s) is = let own = owns_word w s is in omega arith

pub share_most : (w : ℕ) → share_count (share_of w) ≤ ref_count w
share_most w = most_by w (share_of w) refl

-- an owned and counted frame is its owner's
share_by : (w owner : ℕ) (o : Option Share) → share_of w ≡ o → owner_of w ≡ Some owner → 0 < ref_count w → IsShareOf owner o
share_by w owner None is own some = let none = none_counted w owner own is in absurd (omega arith)
share_by w owner (Some s) is own some = let is_own = owns_word w s is in let same : Some s.owner ≡ Some owner = sym is_own.owned ∙ own in cc

pub owned_share : (w owner : ℕ) → owner_of w ≡ Some owner → 0 < ref_count w → IsShareOf owner (share_of w)
owned_share w owner own some = share_by w owner (share_of w) refl own some

-- ---- kind words
dead_by : (b : Bool) (k : KindWord) → is_dead (if b then k else record k { number = 0 }) ≡ is_dead k
dead_by true k = refl
dead_by false k = refl

pub sober_dead : (k : KindWord) → is_dead (sober k) ≡ is_dead k
sober_dead k = dead_by k.validated k

kind_by : (b : Bool) (k : KindWord) → (if b then k else record k { number = 0 }).kind ≡ k.kind
kind_by true k = refl
kind_by false k = refl

pub sober_kind : (k : KindWord) → (sober k).kind ≡ k.kind
sober_kind k = kind_by k.validated k

live_by : (b : Bool) (k : KindWord) → (if b then k else record k { number = 0 }).validated ≡ k.validated
live_by true k = refl
live_by false k = refl

pub sober_live : (k : KindWord) → (sober k).validated ≡ k.validated
sober_live k = live_by k.validated k
