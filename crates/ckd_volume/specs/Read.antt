-- Reads: all bytes of a read are settled at its start.
use Rattle.std.specs.Prelude.{ℕ, ◌+◌, ◌++◌, List, if◌then◌else◌}
use Rattle.s370_walk.specs.declared.parts.Order.{Order}
use Rattle.ckd_track.specs.Track.{Record, count_bytes}
use Rattle.ckd_volume.specs.declared.parts.Orientation.TheVariants.{Gap, Count}
use Rattle.ckd_volume.specs.declared.parts.Found.{Found}
use Rattle.ckd_volume.specs.declared.parts.Found.TheVariants.{There, Lost}
use Rattle.ckd_volume.specs.Front.{Front, Cylinder, track_at, record_at}
use Rattle.ckd_volume.specs.Begin.{Begun, lost, gives, gives_data, rejected, at, exception}
use Rattle.ckd_volume.specs.Begin.{no_status}

-- 1A Read Home Address
abbrev pub home_read : Front → Cylinder → Found → Begun
home_read f cylinder (Lost head second) = lost f head second
home_read f cylinder (There head i points) =
    gives (at f head 0 (Gap 0)) no_status (track_at cylinder head).home

-- 12 Read Count
abbrev pub count_read : Front → Cylinder → Found → Begun
count_read f cylinder (Lost head second) = lost f head second
count_read f cylinder (There head i points) =
    gives (at f head 0 (Count i)) no_status (count_bytes (record_at cylinder head i))

-- 06 Read Data
abbrev pub data_read : Front → Cylinder → Found → Begun
data_read f cylinder (Lost head second) = lost f head second
data_read f cylinder (There head i points) =
    gives_data (at f head 0 (Gap (i + 1))) (exception (record_at cylinder head i))
    (record_at cylinder head i).content

-- 0E Read Key and Data
abbrev pub both_of : Record → List ℕ
both_of r = r.key ++ r.content

-- 0E Read Key and Data gives them of the record that is found
abbrev pub read_key_data : Front → Cylinder → Found → Begun
read_key_data f cylinder (Lost head second) = lost f head second
read_key_data f cylinder (There head i points) =
    gives_data (at f head 0 (Gap (i + 1))) (exception (record_at cylinder head i))
    (both_of (record_at cylinder head i))

-- 1E Read Count, Key and Data
abbrev pub whole_of : Record → List ℕ
whole_of r = count_bytes r ++ both_of r

-- 1E Read Count, Key and Data gives all of the record that is found
abbrev pub read_count_key_data : Front → Cylinder → Found → Begun
read_count_key_data f cylinder (Lost head second) = lost f head second
read_count_key_data f cylinder (There head i points) =
    gives (at f head 0 (Gap (i + 1))) (exception (record_at cylinder head i))
    (whole_of (record_at cylinder head i))

-- 02 Read IPL: only as first command; the arm is on its first track then
abbrev pub ipl_read : Front → Cylinder → Order → Found → Begun
ipl_read f cylinder order found = if order.first then data_read f cylinder found else rejected f
