-- A reference that is given back, on words as on the plain value.
use Rattle.std.proofs.Common.{◌≡◌, ℕ, ◌<◌, true, subst}
use Rattle.xp_words.specs.Machine.{Machine}
use Rattle.xp_board.specs.Told.{PortValue, is_telling, told_word}
use Rattle.table_twins.proofs.Entering.{described_leaves}
use Rattle.frame_words.specs.Plain.{put}
use Rattle.table_law.specs.Plain.{Describes, Plain, reference_back}
use Rattle.table_entries.specs.Acquiring.{GaveRef}
use Rattle.release_laws.proofs.Seen.{put_seen}
use Rattle.release_laws.proofs.Words.{put_words}

-- its steps show that it was counted, and so its frame owned
pub given_back : (n : Machine) (v w : PortValue) (f : ℕ) (p : Plain) → v.post.machine ≡ n → is_telling v ≡ true → Describes n (told_word v) p → GaveRef v w f → Describes n (told_word w) (reference_back f p)
given_back n v w f p same telling d gave =
    let a = put_seen v w f telling gave.found in
    described_leaves n w (put f (told_word v)) (reference_back f p) (gave.plain telling) (put_words n (told_word v) p f d (subst (λ (k : Machine). f < k.frames) same a.inside) a.some)
