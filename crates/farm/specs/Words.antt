-- What is printed for the values of the farm. Assumes nothing.
--   stream_names       the names of the streams, by slot
--   path_names         the names of the radio paths, by macroflow
--   stream_text i      the name of the stream in the slot i
--   path_text f        the name of the radio path of the macroflow f
--   filled c w n       the digits of n, after as many of the character c as they are fewer than w
--   two_digits n       the same with zeros, so at least two digits
--   time_text t        a time in microseconds since midnight: its hours, minutes and seconds, each with two_digits
--   or_hyphen p h x    the text of x by p, or the hyphen h where there is no x
--   fate_text          what became of a grant
--   refusal_text       a refusal, by its number
--   column_text        the text of a column and two spaces, or nothing
--   share_text n       n tenths of a percent
--   asked_text         the path that was asked and a colon, or nothing
use Rattle.std.specs.Prelude.{ℕ, ◌-◌, ◌/◌, ◌%◌, List, [], ◌∷◌, ◌++◌, length, replicate, Option, Some, None, slice_index_or, codes, decimal}
use Rattle.meaning.specs.Refusals.{number}
use Rattle.meaning.specs.declared.refusal.Refusal.{Refusal}
use Rattle.tables.specs.declared.row.Fate.{Fate}
use Rattle.tables.specs.declared.row.Fate.TheVariants.{Open, Charged, Returned, Expired}
use Rattle.farm.specs.declared.words.PathName.{PathName}

abbrev pub stream_names : List (List ℕ)
stream_names =
    codes "turbine 1 pitch"
    ∷ codes "turbine 1 bearing"
    ∷ codes "turbine 2 pitch"
    ∷ codes "turbine 2 brake"
    ∷ codes "turbine 3 pitch"
    ∷ codes "turbine 3 bearing"
    ∷ codes "turbine 4 brake"
    ∷ codes "turbine 5 pitch"
    ∷ codes "turbine 6 bearing"
    ∷ []

abbrev pub path_names : List (List ℕ)
path_names = codes "north" ∷ codes "south" ∷ []

abbrev pub stream_text : ℕ → List ℕ
stream_text i = slice_index_or stream_names i (codes "no stream")

abbrev pub path_text : ℕ → List ℕ
path_text f = slice_index_or path_names f (codes "no path")

abbrev pub filled : ℕ → ℕ → ℕ → List ℕ
filled c w n = replicate (w - length (decimal n)) c ++ decimal n

-- 48 is the digit 0
abbrev pub two_digits : ℕ → List ℕ
two_digits n = filled 48 2 n

abbrev pub time_text : ℕ → List ℕ
time_text t =
    let seconds = t / 1000000 in
    two_digits (seconds / 3600) ++ codes ":" ++ two_digits (seconds / 60 % 60) ++ codes ":" ++ two_digits (seconds % 60)

abbrev pub or_hyphen : {T : Type 0} → (T → Option (List ℕ)) → List ℕ → Option T → Option (List ℕ)
or_hyphen p hyphen (Some x) = p x
or_hyphen p hyphen None = Some hyphen

abbrev pub fate_text : Fate → List ℕ
fate_text Open = codes "open"
fate_text Charged = codes "charged"
fate_text Returned = codes "returned"
fate_text Expired = codes "expired"

abbrev pub refusal_text : Refusal → List ℕ
refusal_text r = codes "refused, number " ++ decimal (number r.reason)

abbrev pub column_text : Option (List ℕ) → List ℕ
column_text (Some text) = text ++ codes "  "
column_text None = []

-- 32 is the space
abbrev pub share_text : ℕ → List ℕ
share_text n = filled 32 3 (n / 10) ++ codes "." ++ decimal (n % 10) ++ codes "%"

abbrev pub asked_text : Option PathName → List ℕ
asked_text (Some path) = path_text path.0 ++ codes ": "
asked_text None = []
