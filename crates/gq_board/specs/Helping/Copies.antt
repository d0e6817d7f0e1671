-- The rule of the two copies of the project.
use Rattle.std.specs.Prelude.{◌≡◌, List, length}
use Rattle.logbook.specs.Pages.{Book}
use Rattle.gq_project.specs.declared.document.Doc.{Doc}
use Rattle.gq_project.specs.declared.document.DocChange.{DocChange}
use Rattle.gq_board.specs.declared.shown.Shown.{Shown}
use Rattle.gq_board.specs.declared.shown.Next.{Next}
use Rattle.gq_board.specs.Published.{docs_after}

-- the project is the first one after the changes of that beginning of this book's history, whose length is the count
abbrev pub ShowsHistory : Book → List Doc → Shown → Type 0
ShowsHistory book base x =
    (x.log.book ≡ book)
    × (x.project ≡ docs_after base x.log.log)
    × (x.count ≡ length x.log.log)

-- it is that change, with this beginning of this book's history
abbrev pub IsNext : Book → List DocChange → DocChange → Next → Type 0
IsNext book log change next =
    (next.change ≡ change)
    × (next.log.book ≡ book)
    × (next.log.log ≡ log)
    × (next.count ≡ length log)
