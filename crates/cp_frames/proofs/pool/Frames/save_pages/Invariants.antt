use Rattle.std.proofs.Common.{◌≡◌, ◌++◌, ◌-◌, ◌*◌, ◌/◌, drop, length}
use Rattle.cp_frames.specs.Layout.{bytes_of}
use Rattle.cp_frames.specs.Saved.{pages_bytes}
use Rattle.cp_frames.proofs.pool.Frames.save_pages.Given as goal

abbrev pub invariant-loop-page : goal.invariant-loop-page
invariant-loop-page l = l.out.items
    ++ pages_bytes (length (bytes_of l.fn.self l.fn.user) / 4096 - l.page)
    (drop (l.page * 4096) (bytes_of l.fn.self l.fn.user))
    ≡ l.fn.out.items ++ pages_bytes (length (bytes_of l.fn.self l.fn.user) / 4096) (bytes_of l.fn.self l.fn.user)
