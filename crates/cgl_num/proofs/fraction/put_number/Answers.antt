use Rattle.std.proofs.Common.{rules}
use Rattle.cgl_num.proofs.fraction.put_number.Goals as goal

pub new-buffer-requires : goal.new-buffer-requires
new-buffer-requires c = search rules

pub format-requires : goal.format-requires
format-requires c κs = search rules

pub as_bytes-text-requires : goal.as_bytes-text-requires
as_bytes-text-requires c = search rules

pub overflow_add-end : goal.overflow_add-end
overflow_add-end c = search rules

pub slice_bounds-copy_from_slice-count : goal.slice_bounds-copy_from_slice-count
slice_bounds-copy_from_slice-count c = search rules

pub slice_bounds-copy_from_slice-start : goal.slice_bounds-copy_from_slice-start
slice_bounds-copy_from_slice-start c = search rules

pub slice_bounds-copy_from_slice-end : goal.slice_bounds-copy_from_slice-end
slice_bounds-copy_from_slice-end c = search rules

pub copy_from_slice-requires : goal.copy_from_slice-requires
copy_from_slice-requires c = search rules

pub returns-clause-end : goal.returns-clause-end
returns-clause-end c = search rules

pub returns-clause-length : goal.returns-clause-length
returns-clause-length c = search rules
