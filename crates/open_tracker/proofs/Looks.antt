-- Which directories have a number and a lane, and what is open after one was opened or closed.
use Rattle.std.proofs.Common.{◌≡◌, ◌≢◌, ℕ, Bool, true, false, not, List, [], ◌∷◌, ◌++◌, Some, None, All, refl, sym, ap, ◌∙◌}
use Rattle.std.specs.Option.{option_map}
use Rattle.std.proofs.lemmas.Bool.{and_left, and_right, and_from, and_parts, eq-eqb, ne_eqb, eqb-true}
use Rattle.std.proofs.lemmas.List.Elements.{All-weaker}
use Rattle.open_tracker.specs.declared.dirs.DirEntry.{DirEntry}
use Rattle.open_tracker.specs.Directories.{is_of, root_of, without}
use Rattle.open_tracker.proofs.Finds.{find_last, find_none, find_other, find_gone, find_kept}

is_itself : (dir : DirEntry) → is_of dir dir.number dir.lane ≡ true
is_itself dir = and_from _ _ (eq-eqb dir.number dir.number refl) (eq-eqb dir.lane dir.lane refl)

other_number : (dir : DirEntry) (number lane : ℕ) → dir.number ≢ number → is_of dir number lane ≡ false
other_number dir number lane ne = and_left _ _ (ne_eqb dir.number number ne)

other_lane : (dir : DirEntry) (number lane : ℕ) → dir.lane ≢ lane → is_of dir number lane ≡ false
other_lane dir number lane ne = and_right _ _ (ne_eqb dir.lane lane ne)

number_of : (dir : DirEntry) (number lane : ℕ) → is_of dir number lane ≡ true → dir.number ≡ number
number_of dir number lane is = eqb-true dir.number number (and_parts _ _ is).0

lane_of : (dir : DirEntry) (number lane : ℕ) → is_of dir number lane ≡ true → dir.lane ≡ lane
lane_of dir number lane is = eqb-true dir.lane lane (and_parts _ _ is).1

-- the test of a number and a lane
abbrev test : ℕ → ℕ → DirEntry → Bool
test number lane dir = is_of dir number lane

none_has : (dirs : List DirEntry) (number lane : ℕ) → All (λ (other : DirEntry). other.number ≢ number) dirs → All (λ (other : DirEntry). test number lane other ≡ false) dirs
none_has dirs number lane new =
    All-weaker (λ (other : DirEntry). other.number ≢ number) (λ (other : DirEntry). test number lane other ≡ false)
    (λ other ne. other_number other number lane ne) dirs new

pub opened : (dirs : List DirEntry) (dir : DirEntry) → All (λ (other : DirEntry). other.number ≢ dir.number) dirs → root_of (dirs ++ dir ∷ []) dir.number dir.lane ≡ Some dir.root
opened dirs dir new =
    ap (option_map (λ (d : DirEntry). d.root))
    (find_last (test dir.number dir.lane) dirs dir (none_has dirs dir.number dir.lane new) (is_itself dir))

pub alone : (dirs : List DirEntry) (dir : DirEntry) (lane : ℕ) → All (λ (other : DirEntry). other.number ≢ dir.number) dirs → lane ≢ dir.lane → root_of (dirs ++ dir ∷ []) dir.number lane ≡ None
alone dirs dir lane new ne =
    ap (option_map (λ (d : DirEntry). d.root))
    (find_other (test dir.number lane) dirs dir (other_lane dir dir.number lane (λ e. ne (sym e))) ∙ find_none (test dir.number lane) dirs (none_has dirs dir.number lane new))

pub opened_rest : (dirs : List DirEntry) (dir : DirEntry) (number lane : ℕ) → number ≢ dir.number → root_of (dirs ++ dir ∷ []) number lane ≡ root_of dirs number lane
opened_rest dirs dir number lane ne =
    ap (option_map (λ (d : DirEntry). d.root))
    (find_other (test number lane) dirs dir (other_number dir number lane (λ e. ne (sym e))))

pub closed : (dirs : List DirEntry) (number lane : ℕ) → root_of (without dirs number lane) number lane ≡ None
closed dirs number lane =
    ap (option_map (λ (d : DirEntry). d.root))
    (find_gone (test number lane) (λ (d : DirEntry). not (is_of d number lane)) (λ d is. ap not is) dirs)

kept : (dirs : List DirEntry) (number lane other by : ℕ) → ((d : DirEntry) → is_of d other by ≡ true → is_of d number lane ≡ false) → root_of (without dirs number lane) other by ≡ root_of dirs other by
kept dirs number lane other by apart =
    ap (option_map (λ (d : DirEntry). d.root))
    (find_kept (test other by) (λ (d : DirEntry). not (is_of d number lane)) (λ d is. ap not (apart d is)) dirs)

pub closed_numbers : (dirs : List DirEntry) (number lane other by : ℕ) → number ≢ other → root_of (without dirs number lane) other by ≡ root_of dirs other by
closed_numbers dirs number lane other by ne =
    kept dirs number lane other by (λ d is. other_number d number lane (λ e. ne (sym e ∙ number_of d other by is)))

pub closed_lanes : (dirs : List DirEntry) (number lane other by : ℕ) → lane ≢ by → root_of (without dirs number lane) other by ≡ root_of dirs other by
closed_lanes dirs number lane other by ne =
    kept dirs number lane other by (λ d is. other_lane d number lane (λ e. ne (sym e ∙ lane_of d other by is)))
