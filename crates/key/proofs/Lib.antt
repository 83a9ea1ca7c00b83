-- SPDX-License-Identifier: Apache-2.0
pub mod Least
pub mod Buckets
pub mod Keys
pub mod Samples
