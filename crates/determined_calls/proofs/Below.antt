-- What lower calls do is determined: their laws, in the form in which they are cited here.
use Rattle.std.proofs.Common.{◌≡◌, ℕ, Bool, List, Option, Result, refl}
use Rattle.xp_words.specs.declared.kind.KindWord.{KindWord}
use Rattle.xp_words.specs.declared.kind.PageType.{PageType}
use Rattle.xp_words.specs.declared.reply.Stop.{Stop}
use Rattle.xp_board.specs.Told.{PortValue}
use Rattle.step_maker.specs.Moves.{Came}
use Rattle.kept_marks.specs.Marks.{KeptFor}
use Rattle.writable_pages.specs.Pages.{TookPage}
use Rattle.determined_laws.specs.Courses.{Alike}
use Rattle.determined_laws.proofs.Courses.{alike_map}
use Rattle.determined_tables.proofs.Leaves.{kept_sure}
use Rattle.determined_tables.proofs.Pages.{took_page_fixed}
pub use Rattle.determined_tables.proofs.Acquired.{acquired_alike, acquired_came}
pub use Rattle.determined_tables.proofs.Pages.{got_page_alike, got_page_came}
pub use Rattle.determined_releases.proofs.Released.{released_alike, released_came}

pub kept_alike : {v w x : PortValue} {f owner : ℕ} {k : KindWord} → KeptFor v w f k owner → KeptFor v x f k owner → Alike v w x (Unit {0})
kept_alike {v} {w} {x} {f} {owner} {k} p q = alike_map ((kept_sure v f k owner).alike w x tt tt p q) (λ e. tt)

pub took_page_alike : {v w x : PortValue} {f owner : ℕ} {a b : Result (Unit {0}) Stop} → TookPage v f owner w a → TookPage v f owner x b → Alike v w x (a ≡ b)
took_page_alike {v} {w} {x} {f} {owner} {a} {b} p q = (took_page_fixed f owner v).alike w x a b p q
