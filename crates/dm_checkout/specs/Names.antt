-- Names that other programs obey.
use Rattle.std.specs.Prelude.{Bool, ◌||◌, List, ℕ, codes}
use Rattle.std.specs.List.{list_any}
use Rattle.dm_tree.specs.Paths.{Name, Path}
use Rattle.dm_checkout.specs.Seen.{is_taken_for, seen}

-- what is compared of a name is that of Git, Mercurial, Subversion, Bazaar, Darcs, Jujutsu or direnv, or the short name that Windows gives such a name
abbrev pub obeys : List ℕ → Bool
obeys s =
    is_taken_for (codes ".git") s || (is_taken_for (codes ".hg") s || (is_taken_for (codes ".svn") s || (is_taken_for (codes ".bzr") s || (is_taken_for (codes "_darcs") s || (is_taken_for (codes ".jj") s || (is_taken_for (codes ".envrc") s ||
    (is_taken_for (codes "git~1") s || (is_taken_for (codes "hg~1") s || (is_taken_for (codes "svn~1") s || (is_taken_for (codes "bzr~1") s || (is_taken_for (codes "jj~1") s || is_taken_for (codes "envrc~1") s)))))))))))

-- another program runs commands from what stands under the name, or takes its settings from there
abbrev pub is_obeyed : Name → Bool
is_obeyed name = obeys (seen name)

-- a name of the path is such a name
abbrev pub has_obeyed : Path → Bool
has_obeyed path = list_any is_obeyed path
