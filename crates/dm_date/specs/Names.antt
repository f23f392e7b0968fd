-- Names of days, months and zones, in small letters or capitals.
use Rattle.std.specs.Prelude.{ℕ, List, [], ◌∷◌, codes, Option, None, Some, is_some, if◌then◌else◌}
use Rattle.std.specs.Char.{eq_ignore_ascii_case}

-- this name
unfoldable pub name : List ℕ → List ℕ → Option (List ℕ)
name [] text = Some text
name (c ∷ cs) [] = None
name (c ∷ cs) (d ∷ text) = if eq_ignore_ascii_case d c then name cs text else None

-- the first of the names that the text begins with
unfoldable pub one_of : List (List ℕ) → List ℕ → Option (List ℕ)
one_of [] text = None
one_of (first ∷ names) text = if is_some (name first text) then name first text else one_of names text

abbrev pub day_names : List (List ℕ)
day_names = codes "Mon" ∷ codes "Tue" ∷ codes "Wed" ∷ codes "Thu" ∷ codes "Fri" ∷ codes "Sat" ∷ codes "Sun" ∷ []

abbrev pub month_names : List (List ℕ)
month_names =
    codes "Jan" ∷ codes "Feb" ∷ codes "Mar" ∷ codes "Apr" ∷ codes "May" ∷ codes "Jun"
    ∷ codes "Jul" ∷ codes "Aug" ∷ codes "Sep" ∷ codes "Oct" ∷ codes "Nov" ∷ codes "Dec" ∷ []

-- the zones that Darcs knows by name
abbrev pub zone_names : List (List ℕ)
zone_names =
    codes "UTC" ∷ codes "UT" ∷ codes "GMT" ∷ codes "WET" ∷ codes "WEST" ∷ codes "BST"
    ∷ codes "ART" ∷ codes "BRT" ∷ codes "BRST" ∷ codes "AST" ∷ codes "ADT" ∷ codes "CLT" ∷ codes "CLST"
    ∷ codes "EST" ∷ codes "EDT" ∷ codes "CST" ∷ codes "CDT" ∷ codes "MST" ∷ codes "MDT" ∷ codes "PST" ∷ codes "PDT"
    ∷ codes "AKST" ∷ codes "AKDT" ∷ codes "HST" ∷ codes "HAST" ∷ codes "HADT" ∷ codes "SST"
    ∷ codes "WAT" ∷ codes "CET" ∷ codes "CEST" ∷ codes "MET" ∷ codes "MEZ" ∷ codes "MEST" ∷ codes "MESZ"
    ∷ codes "EET" ∷ codes "EEST" ∷ codes "CAT" ∷ codes "SAST" ∷ codes "EAT" ∷ codes "MSK" ∷ codes "MSD"
    ∷ codes "SGT" ∷ codes "KST" ∷ codes "JST" ∷ codes "GST" ∷ codes "NZST" ∷ codes "NZDT" ∷ []

unfoldable pub day_name : List ℕ → Option (List ℕ)
day_name text = one_of day_names text

unfoldable pub month_name : List ℕ → Option (List ℕ)
month_name text = one_of month_names text

unfoldable pub zone_name : List ℕ → Option (List ℕ)
zone_name text = one_of zone_names text
